-- The predictor's half: what each function asks follows from the plan, the place and sizes; what they answer is the definition's.
use Rattle.std.proofs.Common.{◌≡◌, refl, sym, ◌∙◌, ap, ap₂, Bool, true, List, ◌++◌, ℕ, zero, suc, ◌+◌, ◌*◌, ◌^◌, ◌<◌, ◌≤◌, ℤ, pos, nat_abs, ◌-ℤ◌, ◌≤ℤ◌, length, get_or, take, drop, arith, length-append, length-drop, length-take-le, take_at, pow_mono}
use Rattle.std.specs.Int.Signed.{le_z}
use Rattle.settings.specs.Limits.{most_samples}
use Rattle.settings.specs.declared.Settings.{Settings}
use Rattle.settings.specs.Range.{in_range}
use Rattle.settings.specs.TableLaws.{components_fit}
use Rattle.predictor.specs.LocalSum.{sum_at}
use Rattle.predictor.specs.Differences.{Image, image_of, index_of, components_at}
use Rattle.predictor.specs.Prediction.{inner, scaled_by, scaled_prediction, first_prediction}
use Rattle.predictor.specs.WeightUpdate.{scaled_error, exponent_by, stepped_weights, next_weights}
use Rattle.predictor.specs.Mapping.{mapped, unmapped, mapped_by, unmapped_by}
use Rattle.predictor.specs.MappingLaws.{mapped_small, unmapped_range}
use Rattle.predictor.specs.Band.{scaled_with, weights_behind}
use Rattle.predictor.specs.Each.{each_map}
use Rattle.predictor.specs.Lengths.{components_at_length, stepped_weights_length}
use Rattle.predictor.specs.WeightLaws.{InWeights, weight_size, stepped_weights_range}
use Rattle.predictor.specs.SizeLaws.{Size}
use Rattle.predictor.proofs.SizeLaws.{components_small, sum_small}
use Rattle.predictor.specs.PredictionLaws.{Scaled, scaled_with_range, scaled_predicted}
use Rattle.predictor.specs.Inputs.{all_ranged, inside, area_small}
use Rattle.predictor.specs.Inputs as inputs
use Rattle.predictor.proofs.AskLaws.{scaled_small, sized_asks, ranged_asks, sample_asks, delta_asks}
use Rattle.predictor.specs.Asks as asks
use Rattle.predictor.specs.Asks.{Pairs, Terms, Stepping, Schedule, Sized, Ranged}
use Rattle.body_value.specs.declared.plan.Plan.{Plan}
use Rattle.body_value.specs.declared.Place.{Place}
use Rattle.body_value.specs.Predictor.{count, Predicting, Predicted, Learning, learnt, Learnt, Mapped, Restored}
use Rattle.body_value.proofs.Plans.{area_few, legal, deep, middle_small, scaled_is, mapped_is, exponent_is, vmin_small, vmax_small}

-- ---- the plan

pub few : (P : Plan) (p : Place) → count P p ≤ 18
few P p = components_fit P.settings.predictor p.z (legal P).predictor.bands_most

-- ---- the definition, with the first value inside

module _ (S : Settings) (I : Image) (z : ℕ) where
  pub scaled_later : (t : ℕ) (ws : List ℤ) → 0 < t
      → scaled_prediction S (sum_at S.image.nx S.predictor.column (I z) t) (components_at S I z t) ws ≡ scaled_with S I z t ws
  unfolding scaled_with
  scaled_later zero ws h = absurd (omega arith)
  scaled_later (suc t) ws h = refl

  pub scaled_first : (t : ℕ) (ws : List ℤ) → t ≡ 0 → first_prediction S I z ≡ scaled_with S I z t ws
  unfolding scaled_with
  scaled_first zero ws e = refl
  scaled_first (suc t) ws e = absurd (omega arith)

  pub behind_is : (t : ℕ) (s s~ : ℤ) (us ws : List ℤ) → (0 < t → us ≡ components_at S I z t) → s~ ≡ scaled_with S I z t ws
      → learnt S t s s~ us ws ≡ weights_behind S I z t s ws
  unfolding learnt weights_behind
  behind_is zero s s~ us ws h e = refl
  behind_is (suc t) s s~ us ws h e = rw (h (omega arith), e)

-- ---- learning

module _ (S : Settings) (s s~ : ℤ) (us ws : List ℤ) where
  pub learnt_first : (t : ℕ) → t ≡ 0 → learnt S t s s~ us ws ≡ ws
  unfolding learnt
  learnt_first zero e = refl
  learnt_first (suc t) e = absurd (omega arith)

  pub learnt_later : (t : ℕ) → 0 < t → learnt S t s s~ us ws ≡ next_weights S t (scaled_error s s~) us ws
  unfolding learnt
  learnt_later zero h = absurd (omega arith)
  learnt_later (suc t) h = refl

module _ {P : Plan} {ws us : List ℤ} {s~ : ℤ} {p : Place} (q : Learning P ws us s~ p) where
  abbrev S : Settings
  S = P.settings

  abbrev n : ℕ
  n = count P p

  pub n_few : count P p ≤ 18
  n_few = few P p

  pub ws_long : length (take (count P p) ws) ≡ count P p
  ws_long = length-take-le n ws (let l = q.fit.long in let f = n_few in omega arith)

  pub us_long : length (take (count P p) us) ≡ count P p
  us_long = length-take-le n us (let l = q.long in let f = n_few in omega arith)

  pub schedule : Schedule p.t P.settings.image.nx P.interval P.settings.predictor.vmin P.settings.predictor.vmax P.settings.image.depth P.settings.predictor.resolution
  schedule =
      let g = legal P in
      record {
        t_most = let a = area_few S P.planned.legal q.within in let h = q.here.place_in in omega arith;
        nx_most = let a = g.image.nx_most in omega arith;
        interval_most = P.planned.interval_few;
        vmin_small = vmin_small g;
        vmax_small = vmax_small g;
        ordered = g.predictor.vmin_vmax;
        depth_most = g.image.depth_most;
        resolution_most = g.predictor.resolution_most;
      }

  pub stepping : 0 < p.t → {rho : ℤ} → nat_abs rho ≤ 30 → Stepping (take (count P p) ws) (take (count P p) us) rho P.settings.predictor.resolution
  stepping later h = record {
    pairs = record { few = let l = ws_long in let f = n_few in omega arith; same = us_long ∙ sym ws_long; ws_small = q.fit.small; us_small = q.small later };
    rho_small = h;
    resolution_most = (legal P).predictor.resolution_most;
  }

  pub unlearnt : (s : ℤ) → p.t ≡ 0 → Learnt P ws us s~ s p ws
  unlearnt s e = record { weights = sym (learnt_first S s s~ (take n us) (take n ws) p.t e); fit = q.fit }

  pub learnt_so : (s rho : ℤ) (up : Bool) (ws1 : List ℤ) → 0 < p.t
      → rho ≡ exponent_by P.settings.image.nx (2 ^ P.interval) P.settings.predictor.vmin P.settings.predictor.vmax P.settings.image.depth P.settings.predictor.resolution p.t
      → up ≡ le_z (pos 0) (scaled_error s s~) → ws1 ≡ stepped_weights P.settings.predictor.resolution (λ i. rho) up (take (count P p) us) (take (count P p) ws)
      → Learnt P ws us s~ s p (ws1 ++ drop (count P p) ws)
  unfolding next_weights
  learnt_so s rho up ws1 later er eu ew =
      let Ω = S.predictor.resolution in
      let wl : length ws1 ≡ n = ap length ew ∙ stepped_weights_length Ω (λ i. rho) up (take n us) (take n ws) (us_long ∙ sym ws_long) ∙ ws_long in
      let tk : take n (ws1 ++ drop n ws) ≡ ws1 = take_at ws1 (drop n ws) n wl in
      let er' = exponent_is P p.t er in
      let fine : Ω + 2 ≤ 21 = omega (arith, (legal P).predictor.resolution_most) in
      let wide : 2 ^ (Ω + 2) ≤ 2 ^ 21 = pow_mono fine in
      record {
        weights = tk ∙ ew ∙ ap₂ (λ (r : ℤ) (u : Bool). stepped_weights Ω (λ i. r) u (take n us) (take n ws)) er' eu ∙ sym (learnt_later S s s~ (take n us) (take n ws) p.t later);
        fit = record {
          long = length-append ws1 (drop n ws) ∙ rw (length-drop, wl) (let l = q.fit.long in let f = n_few in omega arith);
          small = rw (tk, ew) (each_map (InWeights Ω) (Size (2 ^ 21)) (λ w k. let m = weight_size Ω w k in omega arith) _ (stepped_weights_range Ω (λ i. rho) up (take n us) (take n ws)));
        };
      }

  pub learnt_by : (m : ℕ) → m ≡ count P p → (s rho : ℤ) (up : Bool) (ws1 : List ℤ) → 0 < p.t
      → rho ≡ exponent_by P.settings.image.nx (2 ^ P.interval) P.settings.predictor.vmin P.settings.predictor.vmax P.settings.image.depth P.settings.predictor.resolution p.t
      → up ≡ le_z (pos 0) (scaled_error s s~) → ws1 ≡ stepped_weights P.settings.predictor.resolution (λ i. rho) up (take m us) (take m ws)
      → Learnt P ws us s~ s p (ws1 ++ drop m ws)
  learnt_by m em s rho up ws1 later er eu ew = rw em (learnt_so s rho up ws1 later er eu (rw em at ew))

-- ---- predicting

module _ {P : Plan} {samples ws : List ℤ} {p : Place} (q : Predicting P samples ws p) where
  abbrev S' : Settings
  S' = P.settings

  abbrev I : Image
  I = image_of P.settings.image samples

  pub image_ranged : (y i : ℕ) → in_range P.settings.image (image_of P.settings.image samples y i) ≡ true
  unfolding image_of
  image_ranged y i = all_ranged q.image (index_of P.settings.image y i)

  pub first_in : asks.First P.settings samples p.z P.range.middle
  first_in = record { given = q.image; band_in = q.here.band_in; middle_is = P.planned.middle_is }

  pub differing : 0 < p.t → (us : List ℤ) → length us ≡ 18 → asks.Differing P.settings samples us p.z p.t p.x
  differing later us e = record {
    given = q.image;
    band_in = q.here.band_in;
    later = later;
    place_in = q.here.place_in;
    column_is = q.here.column_is;
    long = e;
  }

  pub held_in : count P p ≤ length ws
  held_in = let l = q.fit.long in let f = few P p in omega arith

  pub held_long : length (take (count P p) ws) ≡ count P p
  held_long = length-take-le (count P p) ws held_in

  pub us_taken : (us : List ℤ) → length us ≡ 18 → length (take (count P p) us) ≡ count P p
  us_taken us e = length-take-le (count P p) us (let f = few P p in omega arith)

  pub terms : (us : List ℤ) (sum : ℤ) → us ≡ components_at P.settings (image_of P.settings.image samples) p.z p.t
      → sum ≡ sum_at P.settings.image.nx P.settings.predictor.column (image_of P.settings.image samples p.z) p.t
      → Terms (take (count P p) ws) us sum P.settings.predictor.register P.settings.predictor.resolution P.range.middle
  terms us sum e es =
      let g = legal P in
      record {
        pairs = record {
          few = let l = held_long in let f = few P p in omega arith;
          same = ap length e ∙ components_at_length S' I p.z p.t ∙ sym held_long;
          ws_small = q.fit.small;
          us_small = rw e (components_small S' I p.z (λ y i h. image_ranged y i) g p.t);
        };
        sum_small = rw es (sum_small S' I p.z (λ y i h. image_ranged y i) g p.t);
        register_in = (let h = g.predictor.register_least in omega arith, g.predictor.register_most);
        resolution_most = g.predictor.resolution_most;
        middle_small = middle_small P;
      }

  pub first_is : (us : List ℤ) (s~ : ℤ) → p.t ≡ 0 → length us ≡ 18 → s~ ≡ first_prediction P.settings (image_of P.settings.image samples) p.z → Predicted P samples ws p us s~
  first_is us s~ e l es = record {
    scaled_is = es ∙ scaled_first S' I p.z p.t (take (count P p) ws) e;
    components_are = λ h. absurd (omega arith);
    long = l;
  }

  pub later_is : (us : List ℤ) (sum s~ : ℤ) → 0 < p.t → asks.Differences P.settings samples p.z p.t sum us
      → s~ ≡ scaled_by P.settings.predictor.register P.settings.predictor.resolution P.range.low P.range.middle P.range.high (inner (take (count P p) ws) (take (count P p) us)) sum
      → Predicted P samples ws p us s~
  later_is us sum s~ later d es = record {
    scaled_is =
        scaled_is P sum (take (count P p) us) (take (count P p) ws) es
        ∙ ap₂ (λ (a : ℤ) (l : List ℤ). scaled_prediction S' a l (take (count P p) ws)) d.sum_is d.components_are
        ∙ scaled_later S' I p.z p.t (take (count P p) ws) later;
    components_are = λ h. d.components_are;
    long = d.long;
  }

  pub index_in : p.z * P.area + p.t < length samples
  index_in = rw P.planned.area_is (inside q.image q.here.band_in q.here.place_in)

  pub index_small : p.z * P.area + p.t ≤ most_samples
  index_small = let h = index_in in omega (arith, inputs.whole q.image, inputs.few q.image)

  pub sample_at : get_or samples (p.z * P.area + p.t) (pos 0) ≡ image_of P.settings.image samples p.z p.t
  unfolding image_of
  sample_at = ap (λ (a : ℕ). get_or samples (p.z * a + p.t) (pos 0)) P.planned.area_is

  module _ {us : List ℤ} {s~ : ℤ} (r : Predicted P samples ws p us s~) where
    pub in_scale : Scaled P.settings s~
    in_scale = rw r.scaled_is (scaled_with_range S' (deep P) I p.z (λ y h. image_ranged y 0) p.t (take (count P p) ws))

    pub learning : Learning P ws us s~ p
    learning = record {
      within = q.image.within;
      here = q.here;
      fit = q.fit;
      long = r.long;
      small = λ h. rw (r.components_are h) (components_small S' I p.z (λ y i k. image_ranged y i) (legal P) p.t);
      scaled_small = let m = scaled_small (legal P) s~ in_scale in omega arith;
    }

    pub mapping : (s : ℤ) → s ≡ image_of P.settings.image samples p.z p.t → Sized s~ P.range.low P.range.high × (nat_abs s ≤ 2 ^ 29)
    mapping s e =
        rw (P.planned.low_is, P.planned.high_is)
        (sized_asks (legal P) s~ in_scale, rw e (sample_asks (legal P) _ (image_ranged p.z p.t)))

    pub mapped_so : (s : ℤ) (δ : ℕ) (ws' : List ℤ) → s ≡ image_of P.settings.image samples p.z p.t → δ ≡ mapped_by P.range.low P.range.high s~ s
        → Learnt P ws us s~ s p ws' → Mapped P samples ws p ws' δ
    mapped_so s δ ws' e ed l =
        let d : δ ≡ mapped S' s~ s = mapped_is P s~ s ed in
        record {
          delta_is = d ∙ ap₂ (λ (a b : ℤ). mapped S' a b) r.scaled_is e;
          weights =
              l.weights ∙ behind_is S' I p.z p.t s s~ (take (count P p) us) (take (count P p) ws) r.components_are r.scaled_is
              ∙ ap (λ (v : ℤ). weights_behind S' I p.z p.t v (take (count P p) ws)) e;
          fit = l.fit;
          small = rw d (mapped_small S' s~ (scaled_predicted S' s~ in_scale) (deep P) s (rw e (image_ranged p.z p.t)));
        }

    pub unmapping : {δ : ℕ} → δ < 2 ^ P.settings.image.depth → Ranged s~ P.range.low P.range.high × (pos δ ≤ℤ (P.range.high -ℤ P.range.low))
    unmapping {δ} h = rw (P.planned.low_is, P.planned.high_is) (ranged_asks (legal P) s~ in_scale, delta_asks (legal P) δ h)

    unmapped_is : (s : ℤ) (δ : ℕ) → s ≡ unmapped_by P.range.low P.range.high s~ δ → s ≡ unmapped P.settings s~ δ
    unfolding unmapped
    unmapped_is s δ e = e ∙ rw (P.planned.low_is, P.planned.high_is)

    pub restored_so : (s : ℤ) (δ : ℕ) (ws' : List ℤ) → δ < 2 ^ P.settings.image.depth → s ≡ unmapped_by P.range.low P.range.high s~ δ
        → Learnt P ws us s~ s p ws' → Restored P samples ws p δ ws' s
    restored_so s δ ws' h e l =
        let u : s ≡ unmapped S' s~ δ = unmapped_is s δ e in
        record {
          sample_is = u ∙ ap (λ (a : ℤ). unmapped S' a δ) r.scaled_is;
          weights = l.weights ∙ behind_is S' I p.z p.t s s~ (take (count P p) us) (take (count P p) ws) r.components_are r.scaled_is;
          fit = l.fit;
          in_range_lem = rw u (unmapped_range S' s~ (scaled_predicted S' s~ in_scale) (deep P) δ h);
        }

-- The coder's half: statistics held in two slots, their step, and the bits.
use Rattle.std.specs.Prelude.{Result, Ok, Err}
use Rattle.std.proofs.Common.{◌≡◌, refl, sym, ◌∙◌, ap, Bool, List, ℕ, zero, suc, ◌*◌, ◌^◌, ◌<◌, ◌≤◌, mul-le-mul, arith, ℤ, pos, nat_abs, length, get_or, set, drop, length-set, pow_mono, get_or-set_same, get_or-set_other}
use Rattle.bitstream.specs.declared.write.Tail.{Tail}
use Rattle.bitstream.specs.Stream.{Parsed, ok, bits, field}
use Rattle.bitstream.specs.Writer.{Put}
use Rattle.bitstream.specs.Reader.{found, Means}
use Rattle.bitstream.proofs.Laws.{found_means}
use Rattle.bitstream.proofs.Writes.{put_as}
use Rattle.settings.specs.declared.Settings.{Settings}
use Rattle.coder.specs.declared.Statistics.{Statistics}
use Rattle.coder.specs.Codeword.{codeword, parse}
use Rattle.coder.specs.Statistics.{next_statistics, parameter, statistics_behind}
use Rattle.coder.specs.StatisticsLaws.{Tame, next_tame}
use Rattle.coder.specs.Encoding.{encode, decode}
use Rattle.coder.specs.EncodingLaws.{encode_decode}
use Rattle.coder.specs.Asks.{most_rescaling, rescaling_fits, Counted, Putting, Getting}
use Rattle.body_value.specs.declared.plan.Plan.{Plan}
use Rattle.body_value.specs.Coder.{statistics_in, Counts, Keeping, Coding, Coded, Decoding, Found, Decoded}
use Rattle.bitstream.specs.declared.read.Unread.{Unread}
use Rattle.body_value.proofs.Plans.{legal}

-- ---- the slots

-- statistics put into slots
abbrev pub with : List ℤ → Statistics → List ℤ
with l s = set (set l 0 (pos s.count)) 1 (pos s.accumulator)

module _ (l : List ℤ) (s : Statistics) (e : length l ≡ 14) where
  count_at : get_or (with l s) 0 (pos 0) ≡ pos s.count
  count_at =
      get_or-set_other (set l 0 (pos s.count)) 1 0 (pos s.accumulator) (pos 0) (λ q. omega arith)
      ∙ get_or-set_same l 0 (pos s.count) (pos 0) (omega arith)

  sum_at_lem : get_or (with l s) 1 (pos 0) ≡ pos s.accumulator
  sum_at_lem = get_or-set_same (set l 0 (pos s.count)) 1 (pos s.accumulator) (pos 0) (rw length-set (omega arith))

  pub with_in : statistics_in (with l s) ≡ s
  unfolding statistics_in
  with_in =
      let c : nat_abs (get_or (with l s) 0 (pos 0)) ≡ s.count = ap nat_abs count_at in
      let a : nat_abs (get_or (with l s) 1 (pos 0)) ≡ s.accumulator = ap nat_abs sum_at_lem in
      λ i. record { count = c i; accumulator = a i }

  pub with_counts : (S : Settings) → Tame S.image.depth S.coder.rescaling s → Counts S (with l s)
  with_counts S t = record {
    long = length-set (set l 0 (pos s.count)) 1 (pos s.accumulator) ∙ length-set l 0 (pos s.count) ∙ e;
    count_is = rw count_at;
    accumulator_is = rw sum_at_lem;
    tame = rw with_in t;
  }

-- statistics within their bounds fit the coder
pub counted : {D γ : ℕ} {s : Statistics} → D ≤ 16 → γ ≤ most_rescaling → Tame D γ s → Counted s
counted {D} {γ} {s} d g t =
    let c : 2 ^ γ ≤ 2 ^ most_rescaling = pow_mono g in
    let m : 2 ^ D ≤ 2 ^ 16 = pow_mono d in
    let most : s.count ≤ 2 ^ most_rescaling = let l = t.most in omega arith in
    let p : 2 ^ D * s.count ≤ 2 ^ 16 * 2 ^ most_rescaling = mul-le-mul m most in
    record { count_most = let l = t.most in omega arith; accumulator_most = let b = t.bounded in omega arith }

-- ---- the definition, with the first value inside

module _ (S : Settings) (s : Statistics) (δ : ℕ) where
  pub encode_first : (t : ℕ) → t ≡ 0 → bits S.image.depth δ ≡ encode S t s δ
  unfolding encode
  encode_first zero e = refl
  encode_first (suc t) e = absurd (omega arith)

  pub encode_later : (t : ℕ) → 0 < t → codeword S.image.depth S.coder.unary (parameter S.image.depth s) δ ≡ encode S t s δ
  unfolding encode
  encode_later zero h = absurd (omega arith)
  encode_later (suc t) h = refl

  pub behind_first : (t : ℕ) → t ≡ 0 → s ≡ statistics_behind S t δ s
  unfolding statistics_behind
  behind_first zero e = refl
  behind_first (suc t) e = absurd (omega arith)

  pub behind_later : (t : ℕ) → 0 < t → next_statistics S.coder.rescaling δ s ≡ statistics_behind S t δ s
  unfolding statistics_behind
  behind_later zero h = absurd (omega arith)
  behind_later (suc t) h = refl

module _ (S : Settings) (s : Statistics) (l : List Bool) where
  pub decode_first : (t : ℕ) → t ≡ 0 → field S.image.depth l ≡ decode S t s l
  unfolding decode
  decode_first zero e = refl
  decode_first (suc t) e = absurd (omega arith)

  pub decode_later : (t : ℕ) → 0 < t → parse S.image.depth S.coder.unary (parameter S.image.depth s) l ≡ decode S t s l
  unfolding decode
  decode_later zero h = absurd (omega arith)
  decode_later (suc t) h = refl

-- ---- the step of the statistics, both ways

module _ (P : Plan) {l : List ℤ} (fit : Counts P.settings l) {old : Statistics} (eo : old ≡ statistics_in l) where
  abbrev S : Settings
  S = P.settings

  old_tame : Tame S.image.depth S.coder.rescaling old
  old_tame = rw eo fit.tame

  pub old_counted : Counted old
  old_counted = counted (legal P).image.depth_most (rescaling_fits (legal P).coder) old_tame

  module _ {δ : ℕ} (h : δ < 2 ^ P.settings.image.depth) where
    pub counting : Counted old × (δ < 2 ^ 16) × (P.settings.coder.rescaling ≤ most_rescaling)
    counting =
        let p : 2 ^ S.image.depth ≤ 2 ^ 16 = pow_mono (legal P).image.depth_most in
        (old_counted, omega arith, rescaling_fits (legal P).coder)

    module _ {new : Statistics} (en : new ≡ next_statistics P.settings.coder.rescaling δ old) where
      new_tame : Tame S.image.depth S.coder.rescaling new
      new_tame = let g = (legal P).coder.rescaling_least in rw en (next_tame S.image.depth S.coder.rescaling δ old (omega arith) h old_tame)

      pub keeping : Keeping l new
      keeping =
          let c = counted (legal P).image.depth_most (rescaling_fits (legal P).coder) new_tame in
          record { long = fit.long; count_fits = let m = c.count_most in omega arith; accumulator_fits = let m = c.accumulator_most in omega arith }

      module _ {l' : List ℤ} (el : l' ≡ set (set l 0 (pos new.count)) 1 (pos new.accumulator)) where
        pub new_fit : Counts P.settings l'
        new_fit = rw el (with_counts l new fit.long S new_tame)

        pub new_in : (t : ℕ) → 0 < t → statistics_in l' ≡ statistics_behind P.settings t δ (statistics_in l)
        new_in t later =
            ap statistics_in el ∙ with_in l new fit.long ∙ en ∙ ap (next_statistics S.coder.rescaling δ) eo
            ∙ behind_later S (statistics_in l) δ t later

-- ---- written

module _ {P : Plan} {l : List ℤ} {δ : ℕ} {k : Tail} (q : Coding P l δ k) where
  pub plain_in : (P.settings.image.depth ≤ 32) × (δ < 2 ^ P.settings.image.depth) × (k.at < 2 ^ 60)
  plain_in = (let d = (legal P).image.depth_most in omega arith, q.small, let r = q.room in omega arith)

  pub first_coded : {out out' : List ℕ} {k' : Tail} (t : ℕ) → t ≡ 0 → Put k out (bits P.settings.image.depth δ) k' out' → Coded P l δ t k out l k' out'
  first_coded t e p = record {
    put = put_as (encode_first P.settings (statistics_in l) δ t e) p;
    statistics = behind_first P.settings (statistics_in l) δ t e;
    fit = q.fit;
  }

  module _ {old : Statistics} (eo : old ≡ statistics_in l) where
    pub putting : Putting k δ old P.settings.image.depth P.settings.coder.unary
    putting = record {
      counted = old_counted P q.fit eo;
      depth_least = (legal P).image.depth_least;
      depth_most = (legal P).image.depth_most;
      unary_most = (legal P).coder.unary_most;
      delta_fits = q.small;
      room = let r = q.room in omega arith;
    }

    pub later_coded : {out out' : List ℕ} {k' : Tail} {new : Statistics} {l' : List ℤ} (t : ℕ) → 0 < t → new ≡ next_statistics P.settings.coder.rescaling δ old
        → l' ≡ set (set l 0 (pos new.count)) 1 (pos new.accumulator)
        → Put k out (codeword P.settings.image.depth P.settings.coder.unary (parameter P.settings.image.depth old) δ) k' out'
        → Coded P l δ t k out l' k' out'
    later_coded t later en el p = record {
      put = put_as (ap (λ (s : Statistics). codeword P.settings.image.depth P.settings.coder.unary (parameter P.settings.image.depth s) δ) eo ∙ encode_later P.settings (statistics_in l) δ t later) p;
      statistics = new_in P q.fit eo q.small en el t later;
      fit = new_fit P q.fit eo q.small en el;
    }

-- ---- read

module _ {P : Plan} {l : List ℤ} {at : ℕ} (q : Decoding P l at) where
  pub plain_at : (0 < P.settings.image.depth) × (P.settings.image.depth ≤ 32) × (at ≤ 2 ^ 62)
  plain_at = (let d = (legal P).image.depth_least in omega arith, let d = (legal P).image.depth_most in omega arith, let r = q.room in omega arith)

  first_by : (F : List Bool) (t : ℕ) → t ≡ 0 → (r : Result (ℕ × ℕ) Unread) → Means F (field P.settings.image.depth (drop at F)) r → Decoded P l F at t l r
  first_by F t e (Ok (δ, a)) m = record {
    off = sym (decode_first P.settings (statistics_in l) (drop at F) t e) ∙ m.0;
    inside = m.1;
    statistics = behind_first P.settings (statistics_in l) δ t e;
    fit = q.fit;
  }
  first_by F t e (Err why) m = sym (decode_first P.settings (statistics_in l) (drop at F) t e) ∙ m

  pub first_decoded : (F : List Bool) (t : ℕ) → t ≡ 0 → (r : Result (ℕ × ℕ) Unread) → r ≡ found F at P.settings.image.depth → Decoded P l F at t l r
  first_decoded F t e r er = first_by F t e r (rw er (found_means F at P.settings.image.depth plain_at.0))

  module _ {old : Statistics} (eo : old ≡ statistics_in l) where
    pub getting : Getting old P.settings.image.depth P.settings.coder.unary at
    getting = record {
      counted = old_counted P q.fit eo;
      depth_least = (legal P).image.depth_least;
      depth_most = (legal P).image.depth_most;
      unary_most = (legal P).coder.unary_most;
      room = let r = q.room in omega arith;
    }

    pub off_is : (F : List Bool) (t : ℕ) → 0 < t → (r : Parsed)
        → parse P.settings.image.depth P.settings.coder.unary (parameter P.settings.image.depth old) (drop at F) ≡ r
        → decode P.settings t (statistics_in l) (drop at F) ≡ r
    off_is F t later r e =
        sym (decode_later P.settings (statistics_in l) (drop at F) t later)
        ∙ ap (λ (s : Statistics). parse P.settings.image.depth P.settings.coder.unary (parameter P.settings.image.depth s) (drop at F)) (sym eo) ∙ e

    module _ (F : List Bool) (t : ℕ) (later : 0 < t) {δ a : ℕ}
        (m : (parse P.settings.image.depth P.settings.coder.unary (parameter P.settings.image.depth old) (drop at F) ≡ ok δ (drop a F)) × (a ≤ length F)) where
      pub delta_small : δ < 2 ^ P.settings.image.depth
      delta_small = (encode_decode P.settings (statistics_in l) t δ (drop at F) (drop a F) (off_is F t later _ m.0)).1

      pub later_found : {new : Statistics} {l' : List ℤ} → new ≡ next_statistics P.settings.coder.rescaling δ old
          → l' ≡ set (set l 0 (pos new.count)) 1 (pos new.accumulator) → Found P l F at t l' δ a
      later_found en el = record {
        off = off_is F t later _ m.0;
        inside = m.1;
        statistics = new_in P q.fit eo delta_small en el t later;
        fit = new_fit P q.fit eo delta_small en el;
      }

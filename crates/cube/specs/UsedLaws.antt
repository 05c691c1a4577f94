-- The body looks at no setting that is none: with those as 0 and unused table slots as 0 it is the same.
use Rattle.std.specs.Prelude.{◌≡◌, Bool, false, cond, ◌&&◌, ◌||◌, ℤ, pos}
use Rattle.std.proofs.Math.Path.{refl, ap, ap₂}
use Rattle.std.proofs.Common.{◌∙◌, arith}
use Rattle.std.proofs.Math.Bool.{true}
use mathlib.Core.List.{List, [], ◌∷◌, ◌++◌}
use Prim.Native.Nat.{ℕ, zero, suc, ◌+◌, ◌^◌, ◌<◌, ◌≤◌}
use Rattle.std.proofs.Math.IntN.{nat_abs}
use Rattle.std.proofs.Math.Dec.{ltb}
use borrow.Author.Tests.{lt-ltb}
use Rattle.settings.specs.declared.Settings.{Settings}
use Rattle.settings.specs.Lists.{join, one}
use Rattle.settings.specs.Range.{lowest, highest, middle}
use Rattle.settings.specs.Tables.{table_stride, parameter_slot, entry, backward, component_count}
use Rattle.predictor.specs.Differences.{Image, image_of, components_at}
use Rattle.predictor.specs.Weights.{custom_weight, initial_weights}
use Rattle.predictor.specs.Prediction.{scaled_prediction, first_prediction}
use Rattle.predictor.specs.WeightUpdate.{exponent, next_weights}
use Rattle.predictor.specs.Mapping.{mapped}
use Rattle.predictor.specs.Band.{scaled_with, weights_behind, weights_at, scaled_at, mapped_at}
use Rattle.coder.specs.declared.Statistics.{Statistics}
use Rattle.coder.specs.Statistics.{initial_parameter, initial_accumulator, initial_statistics, statistics_behind, statistics_at}
use Rattle.coder.specs.Encoding.{encode, encode_at}
use Rattle.header.specs.Parts.{used_image, used_predictor, used_coder}
use Rattle.header.specs.Tables.{used, used_tables}
use Rattle.header.specs.Write.{used_settings}
use Rattle.body.specs.Order.{Place, band_interleaved, order}
use Rattle.body.specs.OrderLaws.{All, Inside, inside_order}
use Rattle.body.specs.Body.{code, codes, body}

cond_same : {A : Type 0} (c : Bool) {a a' b b' : A} → (c ≡ true → a ≡ a') → (c ≡ false → b ≡ b') → cond c a b ≡ cond c a' b'
cond_same true f g = f refl
cond_same false f g = g refl

if_true : {A : Type 0} (c : Bool) (a b : A) → c ≡ true → cond c a b ≡ a
if_true true a b e = refl
if_true false a b e = let z : ◌≡◌ {A = ℕ} 0 1 = cc in absurd (omega arith)

if_false : {A : Type 0} (c : Bool) (a b : A) → c ≡ false → cond c a b ≡ b
if_false true a b e = let z : ◌≡◌ {A = ℕ} 0 1 = cc in absurd (omega arith)
if_false false a b e = refl

or_true : (a : Bool) → (a || true) ≡ true
or_true true = refl
or_true false = refl

join_same : {A : Type 0} (f g : ℕ → List A) (a n : ℕ) → ((i : ℕ) → a ≤ i → i < a + n → f i ≡ g i) → join f a n ≡ join g a n
unfolding join
join_same f g a zero h = refl
join_same f g a (suc n) h =
    let e : f a ≡ g a = h a (omega arith) (omega arith) in
    let t = join_same f g (suc a) n (λ i k l. h i (omega arith) (omega arith)) in
    cc

module _ (S : Settings) (tables : List ℤ) (few : (z : ℕ) → component_count S.predictor z ≤ parameter_slot)
    (entry_used : (z i : ℕ) → z < S.image.nz → i < table_stride → entry (used_tables S tables) z i ≡ cond (used S z i) (entry tables z i) (pos 0)) where
  abbrev S' : Settings
  S' = used_settings S

  abbrev tables' : List ℤ
  tables' = used_tables S tables

  pub weight_used : (z i : ℕ) → z < S.image.nz → S.predictor.custom ≡ true → i < component_count S.predictor z → entry tables' z i ≡ entry tables z i
  unfolding used
  weight_used z i h c l =
      let t : ltb i (component_count S.predictor z) ≡ true = lt-ltb i (component_count S.predictor z) l in
      let u : used S z i ≡ true = cc in
      entry_used z i h (omega (arith, few z)) ∙ if_true (used S z i) (entry tables z i) (pos 0) u

  pub accumulator_used : (z : ℕ) → z < S.image.nz → S.coder.tabled ≡ true → entry tables' z parameter_slot ≡ entry tables z parameter_slot
  unfolding used
  accumulator_used z h c =
      let o = or_true (S.predictor.custom && ltb parameter_slot (component_count S.predictor z)) in
      let u : used S z parameter_slot ≡ true = cc in
      entry_used z parameter_slot h (omega arith) ∙ if_true (used S z parameter_slot) (entry tables z parameter_slot) (pos 0) u

  initial_weights_used : (z : ℕ) → z < S.image.nz → initial_weights S' tables' z ≡ initial_weights S tables z
  unfolding initial_weights used_settings used_predictor component_count backward
  initial_weights_used z h =
      cond_same S.predictor.custom
      (λ c. join_same _ _ 0 _ (λ i _ l.
      ap (λ (w : ℤ). one w)
      (ap (λ (q : ℕ). custom_weight S.predictor.resolution q (entry tables' z i)) (if_true S.predictor.custom S.predictor.precision 0 c)
      ∙ ap (custom_weight S.predictor.resolution S.predictor.precision) (weight_used z i h c (omega arith)))))
      (λ c. refl)

  initial_parameter_used : (z : ℕ) → z < S.image.nz → initial_parameter S' tables' z ≡ initial_parameter S tables z
  unfolding initial_parameter used_settings used_coder
  initial_parameter_used z h =
      cond_same S.coder.tabled (λ c. ap nat_abs (accumulator_used z h c)) (λ c. if_false S.coder.tabled 0 S.coder.constant c)

  module _ (I : Image) (z : ℕ) where
    scaled_used : (t : ℕ) (ws : List ℤ) → scaled_with S' I z t ws ≡ scaled_with S I z t ws
    unfolding scaled_with scaled_prediction first_prediction components_at backward lowest middle highest used_settings used_image used_predictor
    scaled_used zero ws = refl
    scaled_used (suc t) ws = refl

    behind_used : (t : ℕ) (s : ℤ) (ws : List ℤ) → weights_behind S' I z t s ws ≡ weights_behind S I z t s ws
    unfolding weights_behind next_weights exponent scaled_with scaled_prediction components_at backward lowest middle highest used_settings used_image used_predictor
    behind_used zero s ws = refl
    behind_used (suc t) s ws = refl

    weights_used : (t : ℕ) → z < S.image.nz → weights_at S' tables' I z t ≡ weights_at S tables I z t
    unfolding weights_at
    weights_used zero h = initial_weights_used z h
    weights_used (suc t) h = behind_used t (I z t) _ ∙ ap (weights_behind S I z t (I z t)) (weights_used t h)

    mapped_used : (t : ℕ) → z < S.image.nz → mapped_at S' tables' I z t ≡ mapped_at S tables I z t
    unfolding mapped_at scaled_at mapped lowest highest used_settings used_image
    mapped_used t h = ap (λ (s : ℤ). mapped S s (I z t)) (scaled_used t _ ∙ ap (scaled_with S I z t) (weights_used t h))

    statistics_used : (d e : ℕ → ℕ) (t : ℕ) → z < S.image.nz → ((i : ℕ) → d i ≡ e i) → statistics_at S' tables' z d t ≡ statistics_at S tables z e t
    unfolding statistics_at initial_statistics statistics_behind used_settings used_coder
    statistics_used d e zero h k =
        ap (λ (p : ℕ). record { count = 2 ^ S.coder.initial; accumulator = initial_accumulator p (2 ^ S.coder.initial) }) (initial_parameter_used z h)
    statistics_used d e (suc t) h k = step t (d t) (e t) (k t) (statistics_used d e t h k)
      where
        step : (t a b : ℕ) → a ≡ b → {s s' : Statistics} → s ≡ s' → statistics_behind S' t a s ≡ statistics_behind S t b s'
        step zero a b p q = q
        step (suc t) a b p q = cc

  encode_used : (t : ℕ) (s : Statistics) (v : ℕ) → encode S' t s v ≡ encode S t s v
  unfolding encode used_settings used_image used_coder
  encode_used zero s v = refl
  encode_used (suc t) s v = refl

  code_used : (I : Image) (p : Place) → p.z < S.image.nz → code S' tables' I p ≡ code S tables I p
  unfolding code encode_at
  code_used I p h =
      encode_used p.t _ _
      ∙ ap₂ (encode S p.t) (statistics_used I p.z _ _ p.t h (λ i. mapped_used I p.z i h)) (mapped_used I p.z p.t h)

  codes_used : (I : Image) (ps : List Place) → All (Inside S.image) ps → codes S' tables' I ps ≡ codes S tables I ps
  unfolding codes
  codes_used I [] h = refl
  codes_used I (p ∷ ps) h = ap₂ (λ (a b : List Bool). a ++ b) (code_used I p h.0.band) (codes_used I ps h.1)

  pub order_used : order S'.image ≡ order S.image
  unfolding order used_settings used_image
  order_used =
      cond_same S.image.sequential (λ _. refl)
      (λ c. ap (band_interleaved S.image.nx S.image.ny S.image.nz) (if_false S.image.sequential 0 S.image.interleave c))

  pub body_used : (samples : List ℤ) → body S' tables' samples ≡ body S tables samples
  unfolding body image_of used_settings used_image
  body_used samples =
      ap (codes S' tables' (image_of S.image samples)) order_used
      ∙ codes_used (image_of S.image samples) (order S.image) (inside_order S.image)

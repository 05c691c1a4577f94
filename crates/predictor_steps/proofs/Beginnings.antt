-- The initial weights of a band: from the tables, or each an eighth of the one before.
use mathlib.Core.Path.{◌≡◌, refl, sym, ◌∙◌, ap, ap₂}
use mathlib.Core.Bool.{Bool, true, false, cond}
use mathlib.Core.List.{List, [], ◌∷◌, ◌++◌, append-nil}
use Prim.Native.Nat.{ℕ, zero, suc, ◌+◌, ◌-◌, ◌*◌, ◌/◌, ◌^◌, ◌<◌, ◌≤◌}
use native.Mathlib.Omega.{arith}
use native.Mathlib.Nat.{le_trans}
use native.Mathlib.Numerals.{add-one}
use lib.Pow.{pow_mono}
use lib.ListN.{length, get_or, take, drop, length-take, length-drop, length-append, drop_of_length-le}
use lib.Seq.{take_at, drop_at}
use lib.IntN.{ℤ, pos}
use borrow.Rule.Slice.PartMut.{put_mid}
use Rattle.integers.specs.Integer.{floor_div}
use Rattle.settings.specs.declared.Settings.{Settings}
use Rattle.settings.specs.LegalLaws.{legal_settings}
use Rattle.settings.specs.Lists.{join, one}
use Rattle.settings.specs.Tables.{table_stride, entry, backward, component_count}
use Rattle.settings.specs.TableLaws.{legal_tables, components_fit}
use Rattle.predictor.specs.Weights.{eighths, default_weights, custom_weight, initial_weights}
use Rattle.predictor.specs.WeightLaws.{weight_size, custom_weight_range}
use Rattle.predictor.specs.Asks.{Customs, Beginning}

eighth_suc : (n : ℕ) (v : ℤ) (i w : ℕ) → suc i < n → get_or (eighths n v) i (pos 0) ≡ pos w → get_or (eighths n v) (suc i) (pos 0) ≡ pos (w / 8)
unfolding eighths
eighth_suc zero v i w h e = absurd (omega arith)
eighth_suc (suc zero) v i w h e = absurd (omega arith)
eighth_suc (suc (suc n)) v zero w h e = ap (λ (x : ℤ). floor_div x 8) e
eighth_suc (suc (suc n)) v (suc i) w h e = eighth_suc (suc n) (floor_div v 8) i w (omega arith) e

pub eighth_first : (n first : ℕ) → 0 < n → get_or (eighths n (pos first)) 0 (pos 0) ≡ pos first
unfolding eighths
eighth_first zero first h = absurd (omega arith)
eighth_first (suc n) first h = refl

pub eighth_next : (n : ℕ) (v : ℤ) (i w : ℕ) → i + 1 < n → get_or (eighths n v) i (pos 0) ≡ pos w
    → get_or (eighths n v) (i + 1) (pos 0) ≡ pos (w / 8)
eighth_next n v i w h e = rw add-one (eighth_suc n v i w (omega arith) e)

pub zero_eighths : (l : List ℤ) (n : ℕ) → n ≡ 3 → l ≡ eighths n (pos 0) → l ≡ pos 0 ∷ pos 0 ∷ pos 0 ∷ []
unfolding eighths
zero_eighths l n h e = e ∙ ap (λ (m : ℕ). eighths m (pos 0)) h

module _ {S : Settings} {tables ws : List ℤ} {z : ℕ} (b : Beginning S tables ws z) where
  abbrev Ω : ℕ
  Ω = S.predictor.resolution

  abbrev Q : ℕ
  Q = S.predictor.precision

  pub resolution_most : S.predictor.resolution ≤ 19
  resolution_most = (legal_settings S b.legal).predictor.resolution_most

  few : length ws ≤ 18
  few = rw b.long (components_fit S.predictor z (legal_settings S b.legal).predictor.bands_most)

  pub custom_asks : S.predictor.custom ≡ true → Customs tables (length ws) (table_stride * z) Ω Q
  unfolding entry
  custom_asks e = record {
    long = omega (arith, few, b.band_in, b.tables_long);
    resolution_most = resolution_most;
    precision_most = ((legal_settings S b.legal).predictor.precise e).1;
    small = λ i h.
        let p = (legal_settings S b.legal).predictor.precise e in
        let i-in : i < component_count S.predictor z = omega (arith, b.long) in
        let w = (legal_tables S tables b.tables_legal_lem z b.band_in).weights e i i-in in
        let c = custom_weight_range Ω Q (get_or tables (table_stride * z + i) (pos 0)) (omega (arith, p.0)) p.1 w in
        let k : Ω + 2 ≤ 21 = omega (arith, resolution_most) in
        le_trans (weight_size Ω (custom_weight Ω Q (get_or tables (table_stride * z + i) (pos 0))) c) (pow_mono k);
  }

  abbrev customs : ℕ → List ℤ
  customs n = join (λ i. one (custom_weight Ω Q (get_or tables (table_stride * z + i) (pos 0)))) 0 n

  abbrev eights : List ℤ
  eights = eighths (backward S.predictor z) (pos (7 * 2 ^ Ω / 8))

  -- `rw` with an equation of a field would rewrite it inside the whole record too
  initial_are : (custom reduced : Bool) → S.predictor.custom ≡ custom → S.predictor.reduced ≡ reduced
      → initial_weights S tables z ≡ cond custom (customs (component_count S.predictor z))
      (cond reduced [] (pos 0 ∷ pos 0 ∷ pos 0 ∷ []) ++ eights)
  unfolding initial_weights default_weights entry
  initial_are custom reduced e f =
      ap₂ (λ (c r : Bool). cond c (customs (component_count S.predictor z)) (cond r [] (pos 0 ∷ pos 0 ∷ pos 0 ∷ []) ++ eights)) e f

  pub custom_are : (ws' : List ℤ) → S.predictor.custom ≡ true → ws' ≡ customs (length ws) → ws' ≡ initial_weights S tables z
  custom_are ws' e g = g ∙ ap (λ (n : ℕ). customs n) b.long ∙ sym (initial_are true S.predictor.reduced e refl)

  count : (reduced : Bool) → S.predictor.reduced ≡ reduced
      → length ws ≡ cond reduced (backward S.predictor z) (3 + backward S.predictor z)
  unfolding component_count
  count reduced e = b.long ∙ ap (λ (c : Bool). cond c (backward S.predictor z) (3 + backward S.predictor z)) e

  pub full_long : S.predictor.reduced ≡ false → 3 ≤ length ws
  full_long e = let h = count false e in omega arith

  module _ (p : ℕ) (plain : S.predictor.custom ≡ false) (g : p ≡ 2 ^ Ω) where
    pub reduced_begin : (ws' : List ℤ) → S.predictor.reduced ≡ true → ws' ≡ eighths (length ws) (pos (7 * p / 8))
        → ws' ≡ initial_weights S tables z
    reduced_begin ws' e h = h ∙ ap₂ (λ (m q : ℕ). eighths m (pos (7 * q / 8))) (count true e) g ∙ sym (initial_are false true plain e)

    pub full_begin : (ds es : List ℤ) → S.predictor.reduced ≡ false → ds ≡ pos 0 ∷ pos 0 ∷ pos 0 ∷ []
        → es ≡ eighths (length (take (length (ds ++ drop 3 ws) - 3) (drop 3 (ds ++ drop 3 ws)))) (pos (7 * p / 8))
        → put_mid 3 (length (ds ++ drop 3 ws) - 3) (ds ++ drop 3 ws) es ≡ initial_weights S tables z
    full_begin ds es e d q =
        let n = backward S.predictor z in
        let sz : length ws ≡ 3 + n = count false e in
        let dl : length ds ≡ 3 = ap length d in
        let dr : drop 3 (ds ++ drop 3 ws) ≡ drop 3 ws = drop_at ds (drop 3 ws) 3 dl in
        let n1 : length (ds ++ drop 3 ws) - 3 ≡ n = rw (length-append ds (drop 3 ws), length-drop, dl) (omega arith) in
        let tk : take 3 (ds ++ drop 3 ws) ≡ ds = take_at ds (drop 3 ws) 3 dl in
        let l3 : length (drop 3 ws) ≡ n = length-drop 3 ws ∙ omega arith in
        let m : length (take (length (ds ++ drop 3 ws) - 3) (drop 3 (ds ++ drop 3 ws))) ≡ n = rw (n1, dr, length-take) (omega arith) in
        let l4 : length (drop 3 ws) ≤ n = omega arith in
        let end : drop n (drop 3 ws) ≡ [] = drop_of_length-le (drop 3 ws) l4 in
        let es' : es ≡ eights = q ∙ ap₂ (λ (m q : ℕ). eighths m (pos (7 * q / 8))) m g in
        rw (n1, tk, dr, end, append-nil) (ap₂ ◌++◌ d es' ∙ sym (initial_are false false plain e))

-- The components of a value, joined from the directional and the central differences in their slots.
use Rattle.std.proofs.Common.{◌≡◌, sym, ◌∙◌, ap, Bool, true, false, cond, List, ◌++◌, append_assoc, ℕ, ◌+◌, ◌-◌, ◌*◌, ◌^◌, ◌≤◌, min, ℤ, length, take, drop, length-take, length-drop, length-append, arith}
use Rattle.std.proofs.Math.Path.{ap₂}
use Rattle.std.proofs.lemmas.List.{length-take-le, take_at, drop_at}
use borrow.Rule.Slice.PartMut.{put_mid, same_len_mid}
use Rattle.settings.specs.declared.Settings.{Settings}
use Rattle.settings.specs.declared.Predictor.{Predictor}
use Rattle.settings.specs.Tables.{backward, component_count}
use Rattle.predictor.specs.LocalSum.{Samples, Position, neighbours_at, position_at, sum_at}
use Rattle.predictor.specs.Differences.{Image, image_of, directional, centrals_at, directional_at, components_at}
use Rattle.predictor.specs.Lengths.{centrals_at_length}
use Rattle.predictor.specs.Asks.{band_from, bands_of, Differing, Differences}
use Rattle.predictor.specs.Inputs.{area, settings, whole, few, samples_small, inside}
use Rattle.predictor_sums.specs.declared.sums.Grid.{Grid}
use Rattle.predictor_sums.specs.Asks.{Window, Narrow, Below}

if_true : {A : Type 0} (c : Bool) (a b : A) → c ≡ true → cond c a b ≡ a
if_true c a b e = ap (λ (x : Bool). cond x a b) e

if_false : {A : Type 0} (c : Bool) (a b : A) → c ≡ false → cond c a b ≡ b
if_false c a b e = ap (λ (x : Bool). cond x a b) e

-- `rw` with an equation of a field would rewrite it inside the whole record too
module _ (P : Predictor) (z n : ℕ) (h : n ≡ min z P.bands) where
  pub count_reduced : P.reduced ≡ true → component_count P z ≡ n
  unfolding component_count backward
  count_reduced e = if_true P.reduced (backward P z) (3 + backward P z) e ∙ sym h

  pub count_full : P.reduced ≡ false → component_count P z ≡ 3 + n
  unfolding component_count backward
  count_full e = if_false P.reduced (backward P z) (3 + backward P z) e ∙ ap (λ (m : ℕ). 3 + m) (sym h)

module _ (S : Settings) (I : Image) (z t n : ℕ) (h : n ≡ min z S.predictor.bands) where
  abbrev behind : List ℤ
  behind = centrals_at S.image.nx S.predictor.column I (backward S.predictor z) z t

  abbrev around : List ℤ
  around = directional_at S.image.nx S.predictor.column (I z) t

  components_reduced : S.predictor.reduced ≡ true → components_at S I z t ≡ centrals_at S.image.nx S.predictor.column I n z t
  unfolding components_at backward
  components_reduced e =
      if_true S.predictor.reduced behind (around ++ behind) e
      ∙ ap (λ (m : ℕ). centrals_at S.image.nx S.predictor.column I m z t) (sym h)

  components_full : S.predictor.reduced ≡ false
      → components_at S I z t ≡ directional_at S.image.nx S.predictor.column (I z) t ++ centrals_at S.image.nx
      S.predictor.column I n z t
  unfolding components_at backward
  components_full e =
      if_false S.predictor.reduced behind (around ++ behind) e
      ∙ ap (λ (m : ℕ). around ++ centrals_at S.image.nx S.predictor.column I m z t) (sym h)

abbrev grid : Settings → Grid
grid S = record { nx = S.image.nx; area = area S; column = S.predictor.column }

-- the part of the slots behind the directional differences
pub middle_long : (n : ℕ) (us ds : List ℤ) → length ds ≡ 3 → length us ≡ 18 → n ≤ 15
    → length (take (3 + n - 3) (drop 3 (ds ++ drop 3 us))) ≡ n
middle_long n us ds dl ul h =
    let k : 3 + n - 3 ≡ n = omega arith in
    rw (k, drop_at ds (drop 3 us) 3 dl, length-take, length-drop) (omega arith)

-- the samples of band z
abbrev pub band : Settings → List ℤ → ℕ → Samples
band S samples z = band_from samples (z * area S)

module _ {S : Settings} {samples us : List ℤ} {z t x : ℕ} (d : Differing S samples us z t x) where
  most : length samples ≤ 2 ^ 40
  most = omega (arith, whole d.given, few d.given)

  pub window : Window samples (z * area S) t S.image.nx
  window =
      record {
        later = d.later;
        wide = (settings d.given).image.nx_least;
        inside = inside d.given d.band_in d.place_in;
        most = most;
      }

  pub narrow : Narrow S.image.nx S.predictor.column
  narrow = λ e. ((settings d.given).predictor.narrow e).1

  module _ (n : ℕ) (h : n ≡ min z S.predictor.bands) where
    pub n_most : n ≤ 15
    n_most = omega (arith, (settings d.given).predictor.bands_most)

    pub some_in : n ≤ length us
    some_in = omega (arith, n_most, d.long)

    pub some_long : length (take n us) ≡ n
    some_long = length-take-le n us some_in

    pub below : (m : ℕ) → m ≡ n → {p : Position} → p ≡ position_at S.image.nx t → Below samples m (grid S) z t p
    below m e at = record {
      later = d.later;
      wide = (settings d.given).image.nx_least;
      position_is = at;
      narrow = narrow;
      small = samples_small d.given;
      place_in = d.place_in;
      few = omega arith;
      most = most;
      long = let p = inside d.given d.band_in d.place_in in omega arith;
    }

    abbrev centrals_of : ℕ → List ℤ
    centrals_of m = centrals_at S.image.nx S.predictor.column (bands_of (area S) samples) m z t

    module _ (sum : ℤ) (f : sum ≡ sum_at S.image.nx S.predictor.column (band S samples z) t) where
      pub reduced_are : (cs : List ℤ) → S.predictor.reduced ≡ true → cs ≡ centrals_of (length (take n us))
          → Differences S samples z t sum (cs ++ drop n us)
      unfolding image_of
      reduced_are cs e g =
          let c : cs ≡ centrals_of n = g ∙ ap (λ (m : ℕ). centrals_of m) some_long in
          let cl : length cs ≡ n = ap length c ∙ centrals_at_length S.image.nx S.predictor.column (bands_of (area S) samples) n z t in
          record {
            sum_is = f;
            components_are =
                ap (λ (m : ℕ). take m (cs ++ drop n us)) (count_reduced S.predictor z n h e) ∙ take_at cs (drop n us) n cl ∙ c
                ∙ sym (components_reduced S (bands_of (area S) samples) z t n h e);
            long = length-append cs (drop n us) ∙ rw length-drop (omega (arith, some_in, d.long));
          }

      pub full_are : (ds cs : List ℤ) → S.predictor.reduced ≡ false → length ds ≡ 3
          → ds ≡ directional (position_at S.image.nx t) (neighbours_at S.image.nx (band S samples z) t) sum
          → cs ≡ centrals_of (length (take (3 + n - 3) (drop 3 (ds ++ drop 3 us))))
          → Differences S samples z t sum (put_mid 3 (3 + n - 3) (ds ++ drop 3 us) cs)
      unfolding image_of directional_at
      full_are ds cs e dl g' g =
          let k : 3 + n - 3 ≡ n = omega arith in
          let l : length (take (3 + n - 3) (drop 3 (ds ++ drop 3 us))) ≡ n = middle_long n us ds dl d.long n_most in
          let c : cs ≡ centrals_of n = g ∙ ap (λ (m : ℕ). centrals_of m) l in
          let cl : length cs ≡ n = ap length c ∙ centrals_at_length S.image.nx S.predictor.column (bands_of (area S) samples) n z t in
          let u : take 3 (ds ++ drop 3 us) ≡ ds = take_at ds (drop 3 us) 3 dl in
          let v : length (ds ++ drop 3 us) ≡ 18 = length-append ds (drop 3 us) ∙ rw length-drop (omega (arith, d.long)) in
          let dc : length (ds ++ cs) ≡ 3 + n = length-append ds cs ∙ omega arith in
          let rest = drop (3 + n - 3) (drop 3 (ds ++ drop 3 us)) in
          record {
            sum_is = f;
            components_are =
                ap (λ (m : ℕ). take m (put_mid 3 (3 + n - 3) (ds ++ drop 3 us) cs)) (count_full S.predictor z n h e)
                ∙ ap (λ (l : List ℤ). take (3 + n) (l ++ (cs ++ rest))) u
                ∙ ap (λ (l : List ℤ). take (3 + n) l) (sym (append_assoc ds cs rest))
                ∙ take_at (ds ++ cs) rest (3 + n) dc
                ∙ ap₂ ◌++◌ (g'
                ∙ ap (λ (y : ℤ). directional (position_at S.image.nx t)
                (neighbours_at S.image.nx (band S samples z) t) y) f) c
                ∙ sym (components_full S (bands_of (area S) samples) z t n h e);
            long = same_len_mid 3 (3 + n - 3) (ds ++ drop 3 us) cs (cl ∙ sym l) ∙ v;
          }

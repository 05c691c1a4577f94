-- What a value can depend on: the samples before it in its band, and those up to its place in the bands before; so a reader predicts as the writer did.
use Rattle.predictor.specs.Causality.{Before}
use Rattle.std.specs.Prelude.{◌≡◌, Bool, true, false, cond, ◌&&◌, ℤ, eqb}
use Rattle.std.proofs.Math.Path.{refl, ap, ap₂}
use Rattle.std.proofs.Math.Bool.{and-eq-true_iff}
use mathlib.Core.List.{List, ◌∷◌}
use Prim.Native.Nat.{ℕ, zero, suc, ◌+◌, ◌-◌, ◌%◌, ◌<◌, ◌≤◌, min}
use Rattle.std.proofs.Math.Nat.{mod-one, min-le_left}
use Rattle.std.proofs.Common.{arith}
use Rattle.std.proofs.Math.Dec.{ltb}
use borrow.Author.Tests.{ltb-true, ltb-false, eqb-false}
use Rattle.settings.specs.declared.Settings.{Settings}
use Rattle.settings.specs.Tables.{backward}
use Rattle.predictor.specs.LocalSum.{Samples, two, four, neighbours_at, position_at, local_sum, sum_at}
use Rattle.predictor.specs.Differences.{Image, difference, directional, central_at, centrals_at, directional_at, components_at}
use Rattle.predictor.specs.Prediction.{first_prediction}
use Rattle.predictor.specs.Mapping.{mapped}
use Rattle.predictor.specs.Band.{scaled_with, weights_behind, weights_at, scaled_at, mapped_at}

cond_same : {A : Type 0} (c : Bool) {a a' b b' : A} → (c ≡ true → a ≡ a') → (c ≡ false → b ≡ b') → cond c a b ≡ cond c a' b'
cond_same true f g = f refl
cond_same false f g = g refl

-- a place that is not in the last column has a sample to the right of it
more_columns : (nx t : ℕ) → 0 < nx → eqb (t % nx + 1) nx ≡ false → 1 < nx
more_columns zero t p h = absurd (omega arith)
more_columns (suc zero) t p h = absurd (eqb-false (t % 1 + 1) 1 h (omega (arith, mod-one t)))
more_columns (suc (suc n)) t p h = omega arith

module _ (nx : ℕ) (column : Bool) (wide : 0 < nx) where
  module _ (b c : Samples) (t : ℕ) (later : 0 < t) (same : (i : ℕ) → i < t → b i ≡ c i) where
    pub sum_at_same : sum_at nx column b t ≡ sum_at nx column c t
    unfolding sum_at local_sum position_at neighbours_at
    sum_at_same =
        cond_same (ltb t nx) (λ _. ap four (same (t - 1) (omega arith)))
        (λ far.
        let f : nx ≤ t = ltb-false _ _ far in
        let w : b (t - 1) ≡ c (t - 1) = same _ (omega arith) in
        let n : b (t - nx) ≡ c (t - nx) = same _ (omega arith) in
        let nw : b (t - nx - 1) ≡ c (t - nx - 1) = same _ (omega arith) in
        cond_same column (λ _. ap four n)
        (λ _.
        cond_same (eqb (t % nx + 1) nx) (λ _. cc)
        (λ last.
        let g : 1 < nx = more_columns nx t wide last in
        let ne : b (t - nx + 1) ≡ c (t - nx + 1) = same _ (omega arith) in
        cond_same (eqb (t % nx) 0) (λ _. cc) (λ _. cc))))

    pub directional_at_same : directional_at nx column b t ≡ directional_at nx column c t
    unfolding directional_at directional position_at neighbours_at
    directional_at_same =
        cond_same (ltb t nx) (λ _. refl)
        (λ far.
        let f : nx ≤ t = ltb-false _ _ far in
        let w : b (t - 1) ≡ c (t - 1) = same _ (omega arith) in
        let n : b (t - nx) ≡ c (t - nx) = same _ (omega arith) in
        let nw : b (t - nx - 1) ≡ c (t - nx - 1) = same _ (omega arith) in
        rw (sum_at_same, n, w, nw))

  pub central_at_same : (b c : Samples) (t : ℕ) → 0 < t → ((i : ℕ) → i ≤ t → b i ≡ c i) → central_at nx column b t ≡ central_at nx column c t
  unfolding central_at
  central_at_same b c t p h =
      ap₂ (λ (x y : ℤ). difference x y) (h t (omega arith)) (sum_at_same b c t p (λ i q. h i (omega arith)))

  pub centrals_at_same : (I J : Image) (n z t : ℕ) → n ≤ z → 0 < t → ((y i : ℕ) → y < z → i ≤ t → I y i ≡ J y i)
      → centrals_at nx column I n z t ≡ centrals_at nx column J n z t
  unfolding centrals_at
  centrals_at_same I J zero z t q p h = refl
  centrals_at_same I J (suc n) z t q p h =
      ap₂ (λ (x : ℤ) (l : List ℤ). x ∷ l) (central_at_same (I (z - 1)) (J (z - 1)) t p (λ i k. h (z - 1) i (omega arith) k))
      (centrals_at_same I J n (z - 1) t (omega arith) p (λ y i k l. h y i (omega arith) l))

module _ (S : Settings) (wide : 0 < S.image.nx) (I J : Image) where
  pub components_at_same : (z t : ℕ) → 0 < t → Before I J z t → components_at S I z t ≡ components_at S J z t
  unfolding components_at backward
  components_at_same z t p h =
      rw (
        centrals_at_same S.image.nx S.predictor.column wide I J (min z S.predictor.bands) z t (min-le_left z S.predictor.bands) p h.below,
        directional_at_same S.image.nx S.predictor.column wide (I z) (J z) t p h.here,
      )

  pub scaled_with_same : (z t : ℕ) (ws : List ℤ) → Before I J z t → scaled_with S I z t ws ≡ scaled_with S J z t ws
  unfolding scaled_with first_prediction
  scaled_with_same z zero ws h =
      cond_same (ltb 0 S.predictor.bands && ltb 0 z)
      (λ e.
      let q : 0 < z = ltb-true 0 z ((and-eq-true_iff (ltb 0 S.predictor.bands) (ltb 0 z)).0 e).1 in
      ap two (h.below (z - 1) 0 (omega arith) (omega arith)))
      (λ _. refl)
  scaled_with_same z (suc t) ws h =
      rw (sum_at_same S.image.nx S.predictor.column wide (I z) (J z) (suc t) (omega arith) h.here, components_at_same z (suc t) (omega arith) h)

  weights_behind_same : (z t : ℕ) (ws : List ℤ) → Before I J z t → I z t ≡ J z t → weights_behind S I z t (I z t) ws ≡ weights_behind S J z t (J z t) ws
  unfolding weights_behind
  weights_behind_same z zero ws h e = refl
  weights_behind_same z (suc t) ws h e = rw (components_at_same z (suc t) (omega arith) h, scaled_with_same z (suc t) ws h, e)

  module _ (tables : List ℤ) (z : ℕ) where
    pub weights_at_same : (t : ℕ) → ((y i : ℕ) → y ≤ z → i < t → I y i ≡ J y i) → weights_at S tables I z t ≡ weights_at S tables J z t
    unfolding weights_at
    weights_at_same zero h = refl
    weights_at_same (suc t) h =
        rw (weights_at_same t (λ y i k l. h y i k (omega arith)))
        (weights_behind_same z t (weights_at S tables J z t)
        (record { here = λ i k. h z i (omega arith) (omega arith); below = λ y i k l. h y i (omega arith) (omega arith) })
        (h z t (omega arith) (omega arith)))

    pub scaled_at_same : (t : ℕ) → ((y i : ℕ) → y ≤ z → i < t → I y i ≡ J y i) → ((y i : ℕ) → y < z → i ≤ t → I y i ≡ J y i)
        → scaled_at S tables I z t ≡ scaled_at S tables J z t
    unfolding scaled_at
    scaled_at_same t h k =
        rw (weights_at_same t h) (scaled_with_same z t (weights_at S tables J z t) (record { here = λ i l. h z i (omega arith) l; below = k }))

    pub mapped_at_same : (t : ℕ) → ((y i : ℕ) → y ≤ z → i ≤ t → I y i ≡ J y i) → mapped_at S tables I z t ≡ mapped_at S tables J z t
    unfolding mapped_at
    mapped_at_same t h =
        ap₂ (λ (a b : ℤ). mapped S a b)
        (scaled_at_same t (λ y i k l. h y i k (omega arith)) (λ y i k l. h y i (omega arith) l))
        (h z t (omega arith) (omega arith))

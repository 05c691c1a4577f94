-- How large the numbers on the way to a prediction get, so that code in 64 bits has room for them.
use Rattle.predictor.specs.SizeLaws.{Around, Size}
use Rattle.std.specs.Prelude.{◌≡◌, Bool, cond, ℤ, pos, negsuc, nat_abs, ◌+ℤ◌, ◌-ℤ◌, ◌*ℤ◌, length}
use Rattle.std.proofs.Math.Bool.{true, false}
use mathlib.Core.List.{List, [], ◌∷◌, ◌++◌}
use Prim.Native.Nat.{ℕ, zero, suc, ◌+◌, ◌-◌, ◌*◌, ◌^◌, ◌<◌, ◌≤◌, zero-le}
use Rattle.std.proofs.Common.{mul-le-mul_right, le_trans, pow_pos, pow_mono, pow-add, leb→le}
use native.Mathlib.Omega.{arith}
use Rattle.integers.specs.Integer.{clip, floor_div}
use Rattle.integers.proofs.Laws.{P, N, zs, one0, abs_parts, add, sub, clip_in, Sz, sz_lit, sz_abs, sz_add, sz_sub, sz_mul, sz_floor}
use Rattle.settings.specs.declared.Settings.{Settings}
use Rattle.settings.specs.Range.{in_range, middle}
use Rattle.settings.specs.RangeLaws.{in_range_size, small}
use Rattle.settings.specs.Tables.{backward}
use Rattle.settings.specs.LegalLaws.{LegalSettings}
use Rattle.settings.specs.TableLaws.{LegalBand, components_fit}
use Rattle.predictor.specs.LocalSum.{Samples, Neighbours, Position, two, four, neighbours_at, position_at, local_sum, sum_at}
use Rattle.predictor.specs.Differences.{Image, difference, directional, central_at, centrals_at, directional_at, components_at}
use Rattle.predictor.specs.Prediction.{inner}
use Rattle.predictor.specs.WeightUpdate.{exponent_by, exponent, gain}
use Rattle.predictor.specs.Band.{weights_at}
use Rattle.predictor.specs.Each.{Each, each_map, each_tail, each_nil, each_cons, each_append}
use Rattle.predictor.specs.Lengths.{weights_at_length}
use Rattle.predictor.specs.WeightLaws.{InWeights, weight_size, weights_at_range}

size_of : {b : ℕ} (z : ℤ) → Sz b z → Size b z
size_of z h = omega (arith, abs_parts z, h.le)

-- ---- sums and differences of samples of size m

module _ (m : ℕ) where
  pub local_sum_size : (column : Bool) (p : Position) (n : Neighbours) → Around m n → Size (4 * m) (local_sum column p n)
  unfolding local_sum
  local_sum_size column p n h =
      go p.first_row column p.last_column p.first_column
      (sz_abs n.north h.north) (sz_abs n.west h.west) (sz_abs n.north_west h.north_west) (sz_abs n.north_east h.north_east)
    where
      go : (top column last left : Bool) {a b c d : ℤ} → Sz m a → Sz m b → Sz m c → Sz m d
          → Size (4 * m) (cond top (four b) (cond column (four a) (cond last (b +ℤ c +ℤ two a) (cond left (two (a +ℤ d)) (b +ℤ c +ℤ a +ℤ d)))))
      go true column last left a b c d = size_of _ (sz_mul (sz_lit 4) b)
      go false true last left a b c d = size_of _ (sz_mul (sz_lit 4) a)
      go false false true left a b c d = let s = size_of _ (sz_add (sz_add b c) (sz_mul (sz_lit 2) a)) in omega arith
      go false false false true a b c d = let s = size_of _ (sz_mul (sz_lit 2) (sz_add a d)) in omega arith
      go false false false false a b c d = let s = size_of _ (sz_add (sz_add (sz_add b c) a) d) in omega arith

  pub difference_size : (s sum : ℤ) → Size m s → Size (4 * m) sum → Size (8 * m) (difference s sum)
  difference_size s sum h k =
      let d = size_of (difference s sum) (sz_sub (sz_mul (sz_lit 4) (sz_abs s h)) (sz_abs sum k)) in
      omega arith

  pub directional_size : (p : Position) (n : Neighbours) (sum : ℤ) → Around m n → Size (4 * m) sum → Each (Size (8 * m)) (directional p n sum)
  unfolding directional
  directional_size p n sum h k =
      go p.first_row p.first_column (difference n.north sum) (difference n.west sum) (difference n.north_west sum)
      (difference_size n.north sum h.north k) (difference_size n.west sum h.west k) (difference_size n.north_west sum h.north_west k)
    where
      list : (a b c : ℤ) → Size (8 * m) a → Size (8 * m) b → Size (8 * m) c → Each (Size (8 * m)) (a ∷ b ∷ c ∷ [])
      list a b c x y z =
          each_cons (Size (8 * m)) a (b ∷ c ∷ []) x
          (each_cons (Size (8 * m)) b (c ∷ []) y (each_cons (Size (8 * m)) c [] z (each_nil (Size (8 * m)) zero-le)))

      go : (top left : Bool) (a b c : ℤ) → Size (8 * m) a → Size (8 * m) b → Size (8 * m) c
          → Each (Size (8 * m)) (cond top (pos 0 ∷ pos 0 ∷ pos 0 ∷ []) (cond left (a ∷ a ∷ a ∷ []) (a ∷ b ∷ c ∷ [])))
      go true left a b c x y z = list (pos 0) (pos 0) (pos 0) zero-le zero-le zero-le
      go false true a b c x y z = list a a a x x x
      go false false a b c x y z = list a b c x y z

  module _ (nx : ℕ) (column : Bool) where
    module _ (b : Samples) (small : (i : ℕ) → Size m (b i)) (t : ℕ) where
      around : Around m (neighbours_at nx b t)
      unfolding neighbours_at
      around = record { north = small _; west = small _; north_west = small _; north_east = small _ }

      pub sum_at_size : Size (4 * m) (sum_at nx column b t)
      unfolding sum_at
      sum_at_size = local_sum_size column (position_at nx t) (neighbours_at nx b t) around

      pub directional_at_size : Each (Size (8 * m)) (directional_at nx column b t)
      unfolding directional_at
      directional_at_size = directional_size (position_at nx t) (neighbours_at nx b t) (sum_at nx column b t) around sum_at_size

      pub central_at_size : Size (8 * m) (central_at nx column b t)
      unfolding central_at
      central_at_size = difference_size (b t) (sum_at nx column b t) (small t) sum_at_size

    pub centrals_at_size : (I : Image) (n z t : ℕ) → ((y i : ℕ) → y ≤ z → Size m (I y i)) → Each (Size (8 * m)) (centrals_at nx column I n z t)
    unfolding centrals_at
    centrals_at_size I zero z t h = each_nil (Size (8 * m)) zero-le
    centrals_at_size I (suc n) z t h =
        each_cons (Size (8 * m)) _ _ (central_at_size (I _) (λ i. h _ i (omega arith)) t)
        (centrals_at_size I n (z - 1) t (λ y i k. h y i (omega arith)))

  pub components_at_size : (S : Settings) (I : Image) (z t : ℕ) → ((y i : ℕ) → y ≤ z → Size m (I y i)) → Each (Size (8 * m)) (components_at S I z t)
  unfolding components_at
  components_at_size S I z t h =
      let nx = S.image.nx in
      let column = S.predictor.column in
      go S.predictor.reduced _ _ (directional_at_size nx column (I z) (λ i. h z i (omega arith)) t)
      (centrals_at_size nx column I (backward S.predictor z) z t h)
    where
      go : (reduced : Bool) (ds cs : List ℤ) → Each (Size (8 * m)) ds → Each (Size (8 * m)) cs → Each (Size (8 * m)) (cond reduced cs (ds ++ cs))
      go true ds cs x y = y
      go false ds cs x y = each_append (Size (8 * m)) zero-le ds cs x y

-- ---- the inner product

pub inner_size : (A B : ℕ) (ws us : List ℤ) → Each (Size A) ws → Each (Size B) us → Size (length ws * (A * B)) (inner ws us)
unfolding inner
inner_size A B [] us h k = zero-le
inner_size A B (w ∷ ws) [] h k = zero-le
inner_size A B (w ∷ ws) (u ∷ us) h k =
    let r = sz_abs (inner ws us) (inner_size A B ws us (each_tail (Size A) w ws h) (each_tail (Size B) u us k)) in
    let s = size_of (w *ℤ u +ℤ inner ws us) (sz_add (sz_mul (sz_abs w (h.at 0)) (sz_abs u (k.at 0))) r) in
    omega arith

-- ---- the weights' step

pub gain_size : (k b : ℕ) (ρ v : ℤ) → Size k ρ → Size b v → Size (2 ^ k * b + 2 ^ k) (gain ρ v)
unfolding gain
gain_size k b (pos r) v h l =
    let p : 2 ^ r ≤ 2 ^ k = pow_mono h in
    let s = size_of (floor_div (v +ℤ pos (2 ^ r)) (2 ^ (r + 1))) (sz_floor (2 ^ (r + 1)) (pow_pos (r + 1)) (sz_add (sz_abs v l) (sz_lit (2 ^ r)))) in
    let m : 1 * b ≤ 2 ^ k * b = mul-le-mul_right b (pow_pos k) in
    omega arith
gain_size k b (negsuc r) v h l =
    let p : 2 ^ suc r ≤ 2 ^ k = pow_mono h in
    let s = size_of (floor_div (pos (2 ^ suc r) *ℤ v +ℤ pos 1) 2) (sz_floor 2 (omega arith) (sz_add (sz_mul (sz_lit (2 ^ suc r)) (sz_abs v l)) (sz_lit 1))) in
    let m : 2 ^ suc r * b ≤ 2 ^ k * b = mul-le-mul_right b p in
    let one : 1 ≤ 2 ^ k = pow_pos k in
    le_trans s (omega (arith, m, one))

-- −6 + 2 − 19 ≤ ρ ≤ 9 + 16 − 4
pub exponent_size : (S : Settings) → LegalSettings S → (t : ℕ) → Size 23 (exponent S t)
unfolding exponent exponent_by
exponent_size S legal t =
    let Q = S.predictor in
    let x = Q.vmin +ℤ floor_div (pos t -ℤ pos S.image.nx) Q.interval in
    let v = clip x Q.vmin Q.vmax in
    let c = clip_in x Q.vmin Q.vmax legal.predictor.vmin_vmax in
    let low : N v ≤ P v + 6 = omega (zs, c.0, legal.predictor.vmin_least) in
    let high : P v ≤ N v + 9 = omega (zs, c.1, legal.predictor.vmax_most) in
    sized v S.image.depth Q.resolution low high legal.image.depth_least legal.image.depth_most
    legal.predictor.resolution_least legal.predictor.resolution_most
  where
    sized : (v : ℤ) (D Ω : ℕ) → N v ≤ P v + 6 → P v ≤ N v + 9 → 2 ≤ D → D ≤ 16 → 4 ≤ Ω → Ω ≤ 19 → Size 23 (v +ℤ pos D -ℤ pos Ω)
    sized v D Ω a b c d e f =
        let ρ = v +ℤ pos D -ℤ pos Ω in
        omega (arith, abs_parts ρ, one0 ρ, (add v (pos D)).value, (sub (v +ℤ pos D) (pos Ω)).value)

-- ---- at legal settings, and samples in range

module _ (S : Settings) (I : Image) (z : ℕ) (ranged : (y i : ℕ) → y ≤ z → in_range S.image (I y i) ≡ true) where
  pub components_range : 1 ≤ S.image.depth → (t : ℕ) → Each (λ u. nat_abs u < 2 ^ (S.image.depth + 3)) (components_at S I z t)
  components_range deep t =
      let m = 2 ^ S.image.depth - 1 in
      each_map (Size (8 * m)) (λ u. nat_abs u < 2 ^ (S.image.depth + 3))
      (λ u h. omega (arith, pow-add 2 S.image.depth 3, pow_pos S.image.depth)) (components_at S I z t)
      (components_at_size m S I z t (λ y i k. in_range_size S.image (I y i) deep (ranged y i k)))

  module _ (legal : LegalSettings S) (t : ℕ) where
    deep : 1 ≤ S.image.depth
    deep = omega (arith, legal.image.depth_least)

    pub components_small : Each (Size (2 ^ 19)) (components_at S I z t)
    components_small =
        let most : S.image.depth + 3 ≤ 19 = omega (arith, legal.image.depth_most) in
        let p = pow_mono most in
        each_map (λ u. nat_abs u < 2 ^ (S.image.depth + 3)) (Size (2 ^ 19)) (λ u h. omega arith) (components_at S I z t) (components_range deep t)

    pub sum_small : Size (2 ^ 18) (sum_at S.image.nx S.predictor.column (I z) t)
    sum_small =
        let m = 2 ^ S.image.depth - 1 in
        let p = pow_mono legal.image.depth_most in
        let s = sum_at_size m S.image.nx S.predictor.column (I z) (λ i. in_range_size S.image (I z i) deep (ranged z i (omega arith))) t in
        omega arith

    module _ (tables : List ℤ) (band : LegalBand S tables z) where
      pub inner_small : Size (18 * 2 ^ 40) (inner (weights_at S tables I z t) (components_at S I z t))
      inner_small =
          let ws = weights_at S tables I z t in
          let us = components_at S I z t in
          let Ω = S.predictor.resolution in
          let fine : Ω + 2 ≤ 21 = omega (arith, legal.predictor.resolution_most) in
          let wide = pow_mono fine in
          let few : length ws ≤ 18 = rw (weights_at_length S I z tables t) (components_fit S.predictor z legal.predictor.bands_most) in
          let small = each_map (InWeights Ω) (Size (2 ^ 21)) (λ w h. le_trans (weight_size Ω w h) wide) ws (weights_at_range S tables I z t legal band) in
          let most : length ws * (2 ^ 21 * 2 ^ 19) ≤ 18 * (2 ^ 21 * 2 ^ 19) = mul-le-mul_right (2 ^ 21 * 2 ^ 19) few in
          le_trans (inner_size (2 ^ 21) (2 ^ 19) ws us small components_small) most

      -- what goes into the register
      pub register_small :
          Size (2 ^ 45)
          (inner (weights_at S tables I z t) (components_at S I z t)
          +ℤ pos (2 ^ S.predictor.resolution) *ℤ (sum_at S.image.nx S.predictor.column (I z) t -ℤ four (middle S.image)))
      register_small =
          let Ω = S.predictor.resolution in
          let p : 2 ^ Ω ≤ 2 ^ 19 = pow_mono legal.predictor.resolution_most in
          let r : Sz (2 ^ 19) (pos (2 ^ Ω)) = record { le = omega arith } in
          let mid = sz_mul (sz_lit 4) (sz_abs (middle S.image) (small S.image deep legal.image.depth_most).middle_small) in
          let e = sz_sub (sz_abs (sum_at S.image.nx S.predictor.column (I z) t) sum_small) mid in
          let d = sz_abs (inner (weights_at S tables I z t) (components_at S I z t)) inner_small in
          le_trans (size_of _ (sz_add d (sz_mul r e))) (leb→le (18 * 2 ^ 40 + 2 ^ 19 * (2 ^ 18 + 4 * 2 ^ 15)) (2 ^ 45) tt)

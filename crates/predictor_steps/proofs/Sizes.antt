-- Sizes of what the functions compute on the way, so that 64 bits hold it.
use mathlib.Core.Path.{◌≡◌, ap}
use mathlib.Core.Bool.{Bool, true, false}
use mathlib.Core.List.{List}
use Prim.Native.Nat.{ℕ, ◌+◌, ◌*◌, ◌/◌, ◌^◌, ◌≤◌}
use native.Mathlib.Omega.{arith}
use native.Mathlib.Nat.{div-add-mod, mul-le-mul_right, mul-le-mul, mul_comm, le_trans}
use lib.Pow.{pow_mono, pow_pos, pow-add}
use lib.ListN.{length}
use lib.IntN.{ℤ, pos, negsuc, neg_ℤ, nat_abs}
use mir.Syntax.{w64}
use mir.Val.{SFits}
use Rattle.integers.specs.Integer.{floor_div, oriented}
use Rattle.integers.specs.Laws.{P, N, neg, abs_parts, fits_parts}
use Rattle.predictor.specs.Prediction.{inner}
use Rattle.predictor.specs.WeightUpdate.{gain, weight_step}
use Rattle.predictor.proofs.SizeLaws.{inner_size, gain_size}
use Rattle.predictor.specs.WeightLaws.{weight_size, weight_step_range}
use Rattle.predictor.specs.Asks.{Pairs}

half_div : (a d : ℕ) → 2 ≤ d → a / d ≤ a / 2
half_div a d h =
    let m = mul-le-mul {n₁ = a / d} {n₂ = a / d} (omega arith) h in
    let q = div-add-mod a d in
    let c = mul_comm d (a / d) in
    omega arith

-- a shift by one place or more halves
pub floor_small : (v : ℤ) (o : ℕ) → SFits w64 v → P (floor_div v (2 ^ (o + 1))) + N (floor_div v (2 ^ (o + 1))) ≤ 2 ^ 62
floor_small v o f = go v (fits_parts f)
  where
    d2 : 2 ≤ 2 ^ (o + 1)
    d2 = let p = pow_pos o in rw (pow-add 2 o 1) (omega arith)

    go : (v : ℤ) → P v + N v ≤ 2 ^ 63 → P (floor_div v (2 ^ (o + 1))) + N (floor_div v (2 ^ (o + 1))) ≤ 2 ^ 62
    go (pos a) h = let q = half_div a (2 ^ (o + 1)) d2 in omega arith
    go (negsuc a) h = let q = half_div a (2 ^ (o + 1)) d2 in omega arith

pub power_small : (k m : ℕ) (p : ℤ) → k ≤ m → p ≡ pos (2 ^ k) → P p + N p ≤ 2 ^ m
power_small k m p h e = let g : nat_abs p ≡ 2 ^ k = ap nat_abs e in let w : 2 ^ k ≤ 2 ^ m = pow_mono h in omega (arith, abs_parts p)

pub inner_small : (ws us : List ℤ) → Pairs ws us → P (inner ws us) + N (inner ws us) ≤ 18 * 2 ^ 40
inner_small ws us h =
    let s = inner_size (2 ^ 21) (2 ^ 19) ws us h.ws_small h.us_small in
    let m : length ws * (2 ^ 21 * 2 ^ 19) ≤ 18 * (2 ^ 21 * 2 ^ 19) = mul-le-mul_right (2 ^ 21 * 2 ^ 19) h.few in
    let t : nat_abs (inner ws us) ≤ 18 * 2 ^ 40 = le_trans s m in
    omega (arith, abs_parts (inner ws us))

pub oriented_small : (up : Bool) (u v : ℤ) → v ≡ oriented up u → nat_abs u ≤ 2 ^ 19 → nat_abs v ≤ 2 ^ 19
oriented_small true u v e h = omega (arith, ap nat_abs e)
oriented_small false u v e h = omega (arith, ap nat_abs e, neg u, abs_parts u, abs_parts (neg_ℤ u))

pub gain_small : (rho v : ℤ) → nat_abs v ≤ 2 ^ 19 → nat_abs rho ≤ 30 → P (gain rho v) + N (gain rho v) ≤ 2 ^ 50
gain_small rho v h k =
    let s : nat_abs (gain rho v) ≤ 2 ^ 30 * 2 ^ 19 + 2 ^ 30 = gain_size 30 (2 ^ 19) rho v k h in omega (arith, abs_parts (gain rho v))

pub step_small : (o : ℕ) (rho : ℤ) (up : Bool) (u w : ℤ) → o ≤ 19 → nat_abs (weight_step o rho up u w) ≤ 2 ^ 21
step_small o rho up u w h =
    let k : o + 2 ≤ 21 = omega arith in
    le_trans (weight_size o (weight_step o rho up u w) (weight_step_range o rho up u w)) (pow_mono k)

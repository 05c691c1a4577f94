-- The map of residuals and its inverse case by case, as the branches of the code tell the cases apart, and their sizes.
use borrow.Author.Tests.{lt-ltb, le-ltb, eq-eqb, ne_eqb, le-leb, lt-leb}
use mathlib.Core.Path.{◌≡◌}
use mathlib.Core.Bool.{Bool, true, false, cond, not, ◌&&◌}
use Prim.Native.Nat.{ℕ, zero, suc, ◌+◌, ◌-◌, ◌*◌, ◌/◌, ◌%◌, ◌<◌, ◌≤◌, max, zero-le}
use native.Mathlib.Omega.{arith}
use lib.Dec.{ltb}
use lib.IntN.{ℤ, pos, negsuc, nat_abs, ◌+ℤ◌, ◌-ℤ◌}
use lib.Signed.{le_z, lt_z, ◌≤ℤ◌}
use Rattle.integers.specs.Integer.{oriented}
use Rattle.integers.proofs.Laws.{zs, add, sub, one0, abs_parts, lt_z_true, lt_z_false}
use Rattle.predictor.specs.Mapping.{theta, map_residual, unmap_residual, unmapped_by}
use Rattle.predictor.specs.MappingLaws.{unmapped_by_range}
use Rattle.predictor.specs.Asks.{Ranged}

pub far : (even : Bool) (Δ : ℤ) (θ : ℕ) → θ < nat_abs Δ → map_residual even Δ θ ≡ nat_abs Δ + θ
unfolding map_residual
far even Δ θ g = simp (lt-ltb θ (nat_abs Δ) g)

module _ (θ : ℕ) where
  pub even_below : (Δ : ℤ) → nat_abs Δ ≤ θ → lt_z Δ (pos 0) ≡ true → map_residual true Δ θ ≡ 2 * nat_abs Δ - 1
  unfolding map_residual
  even_below (pos n) f e = absurd (omega (arith, lt_z_true (pos n) (pos 0) e))
  even_below (negsuc n) f e = simp (le-ltb θ (suc n) f)

  pub even_above : (Δ : ℤ) → nat_abs Δ ≤ θ → lt_z Δ (pos 0) ≡ false → map_residual true Δ θ ≡ 2 * nat_abs Δ
  unfolding map_residual
  even_above (pos n) f e = simp (le-ltb θ n f, le-leb 0 n zero-le, le-leb n θ f)
  even_above (negsuc n) f e = absurd (omega (arith, lt_z_false (negsuc n) (pos 0) e))

  pub odd_above : (Δ : ℤ) → nat_abs Δ ≤ θ → lt_z (pos 0) Δ ≡ true → map_residual false Δ θ ≡ 2 * nat_abs Δ - 1
  unfolding map_residual
  odd_above (pos zero) f e = absurd (omega (arith, lt_z_true (pos 0) (pos 0) e))
  odd_above (pos (suc n)) f e = simp (le-ltb θ (suc n) f)
  odd_above (negsuc n) f e = absurd (omega (arith, lt_z_true (pos 0) (negsuc n) e))

  pub odd_below : (Δ : ℤ) → nat_abs Δ ≤ θ → lt_z (pos 0) Δ ≡ false → map_residual false Δ θ ≡ 2 * nat_abs Δ
  unfolding map_residual
  odd_below (pos zero) f e = simp (le-ltb θ 0 zero-le, le-leb 0 θ zero-le)
  odd_below (pos (suc n)) f e = absurd (omega (arith, lt_z_false (pos 0) (pos (suc n)) e))
  odd_below (negsuc n) f e = simp (le-ltb θ (suc n) f, le-leb 0 (suc n) zero-le, le-leb (suc n) θ f)

-- ---- the way back
module _ (δ θ : ℕ) (below : Bool) where
  pub near_even : (even : Bool) → δ ≤ 2 * θ → δ % 2 ≡ 0 → unmap_residual even δ θ below ≡ oriented even (pos ((δ + 1) / 2))
  unfolding unmap_residual
  near_even true f h = simp (le-leb δ (2 * θ) f, eq-eqb (δ % 2) 0 h)
  near_even false f h = simp (le-leb δ (2 * θ) f, eq-eqb (δ % 2) 0 h)

  pub near_odd : (even : Bool) → δ ≤ 2 * θ → (δ % 2 ≡ 0 → ⊥) → unmap_residual even δ θ below ≡ oriented (not even) (pos ((δ + 1) / 2))
  unfolding unmap_residual
  near_odd true f h = simp (le-leb δ (2 * θ) f, ne_eqb (δ % 2) 0 h)
  near_odd false f h = simp (le-leb δ (2 * θ) f, ne_eqb (δ % 2) 0 h)

  pub away : (even : Bool) → 2 * θ < δ → unmap_residual even δ θ below ≡ oriented below (pos (δ - θ))
  unfolding unmap_residual
  away even f = simp (lt-leb δ (2 * θ) f)

-- ---- sizes
cond_le : (b : Bool) (x y : ℕ) → cond b x y ≤ max x y
cond_le true x y = omega arith
cond_le false x y = omega arith

pub map_le : (even : Bool) (Δ : ℤ) (θ : ℕ) → map_residual even Δ θ ≤ nat_abs Δ + nat_abs Δ + θ
unfolding map_residual
map_le even Δ θ =
    let n = nat_abs Δ in
    let b = le_z (pos 0) (oriented even Δ) && le_z (oriented even Δ) (pos θ) in
    let i : cond b (2 * n) (2 * n - 1) ≤ 2 * n = omega (arith, cond_le b (2 * n) (2 * n - 1)) in
    omega (arith, cond_le (ltb θ n) (n + θ) (cond b (2 * n) (2 * n - 1)))

pub theta_le : (low high p : ℤ) → theta low high p ≤ nat_abs p + nat_abs low
unfolding theta
theta_le low high p = omega (arith, sub p low, abs_parts (p -ℤ low), abs_parts p, abs_parts low)

-- the sample of δ lies in the range
pub unmapped_in : {scaled low high : ℤ} (δ : ℕ) → Ranged scaled low high → pos δ ≤ℤ (high -ℤ low)
    → (low ≤ℤ unmapped_by low high scaled δ) × (unmapped_by low high scaled δ ≤ℤ high)
unmapped_in {scaled} {low} {high} δ r h =
    let d = high -ℤ low in
    let m = nat_abs d in
    let e : high ≡ low +ℤ pos m = omega (zs, (sub high low).value, one0 d, abs_parts d, (add low (pos m)).value) in
    let k : δ ≤ m = omega (zs, abs_parts d) in
    unmapped_by_range low high scaled r.above r.below m δ e k

-- `predictor_steps::weights::gain` meets its contract: each sign of the exponent is one shift, of a sum or of a product that fits.
use mathlib.Core.Path.{◌≡◌}
use Prim.Native.Nat.{◌+◌, ◌^◌, ◌≤◌}
use lib.IntN.{pos, nat_abs, ◌+ℤ◌, ◌-ℤ◌, ◌*ℤ◌}
use mir.Syntax.{w32, w64}
use mir.Val.{SFits}
use mir.Facts.{to_z-of_z}
use Rattle.integers.proofs.Laws.{P, N, zs, ok, add, sub, abs_parts, shr_floor, floor_fits}
use Rattle.predictor_steps.proofs.Gains.{gain_right, gain_left}
use Rattle.predictor_steps.proofs.WeightFits.{sum_fits, product_small, turned_small}
use Rattle.predictor_steps.proofs.weights.gain.Goals as goal

pub overflow_mul-result : goal.overflow_mul-result
overflow_mul-result c =
    let q-is : c.power-else-rho-ge0.result ≡ pos (2 ^ nat_abs (pos 0 -ℤ c.args.rho)) =
    let s = c in
    let rho = c.args.rho in
    let f = c.ranges.rho in
    let g : SFits w32 (pos 0 -ℤ rho) = omega (zs, sub (pos 0) rho, abs_parts rho) in
    simp to_z-of_z at c.power-else-rho-ge0.ensures in
    let small : P (c.power-else-rho-ge0.result *ℤ c.args.v) + N (c.power-else-rho-ge0.result *ℤ c.args.v) ≤ 2 ^ 49 =
    let s = c in
    product_small c.args.v c.power-else-rho-ge0.result (nat_abs (pos 0 -ℤ c.args.rho)) c.requires.0 (turned_small c.args.rho c.requires.1)
    q-is in
    let h = small in
    simp (to_z-of_z, c.ranges.v, ok w64 c.power-else-rho-ge0.result c.power-else-rho-ge0.type_inv) (omega zs)

pub overflow_add-result-else-rho-ge0 : goal.overflow_add-result-else-rho-ge0
overflow_add-result-else-rho-ge0 c =
    let q-is : c.power-else-rho-ge0.result ≡ pos (2 ^ nat_abs (pos 0 -ℤ c.args.rho)) =
    let s = c in
    let rho = c.args.rho in
    let f = c.ranges.rho in
    let g : SFits w32 (pos 0 -ℤ rho) = omega (zs, sub (pos 0) rho, abs_parts rho) in
    simp to_z-of_z at c.power-else-rho-ge0.ensures in
    let small : P (c.power-else-rho-ge0.result *ℤ c.args.v) + N (c.power-else-rho-ge0.result *ℤ c.args.v) ≤ 2 ^ 49 =
    let s = c in
    product_small c.args.v c.power-else-rho-ge0.result (nat_abs (pos 0 -ℤ c.args.rho)) c.requires.0 (turned_small c.args.rho c.requires.1)
    q-is in
    let h = small in
    let m = c.power-else-rho-ge0.result *ℤ c.args.v in
    let f : SFits w64 m = omega zs in
    simp (to_z-of_z, c.ranges.v, ok w64 c.power-else-rho-ge0.result c.power-else-rho-ge0.type_inv, f) (omega (zs, add m (pos 1)))

pub returns-then-rho-ge0 : goal.returns-then-rho-ge0
returns-then-rho-ge0 c =
    let p-is : c.power.result ≡ pos (2 ^ nat_abs c.args.rho) =
    let f = c.ranges.rho in simp to_z-of_z at c.power.ensures in
    let s = c in
    let rho = c.args.rho in
    let fr = c.ranges.rho in
    let fv = c.ranges.v in
    let p = c.power.result in
    let fp = ok w64 p c.power.type_inv in
    let fs = sum_fits c.args.v p (nat_abs rho) c.requires.0 c.requires.1 p-is in
    let ff = floor_fits (c.args.v +ℤ p) (2 ^ (nat_abs rho + 1)) fs in
    let t = simp to_z-of_z at c.if-rho-ge0.true in
    simp (to_z-of_z, shr_floor) (rw p-is (gain_right rho c.args.v t))

pub returns-else-rho-ge0 : goal.returns-else-rho-ge0
returns-else-rho-ge0 c =
    let q-is : c.power-else-rho-ge0.result ≡ pos (2 ^ nat_abs (pos 0 -ℤ c.args.rho)) =
    let s = c in
    let rho = c.args.rho in
    let f = c.ranges.rho in
    let g : SFits w32 (pos 0 -ℤ rho) = omega (zs, sub (pos 0) rho, abs_parts rho) in
    simp to_z-of_z at c.power-else-rho-ge0.ensures in
    let small : P (c.power-else-rho-ge0.result *ℤ c.args.v) + N (c.power-else-rho-ge0.result *ℤ c.args.v) ≤ 2 ^ 49 =
    let s = c in
    product_small c.args.v c.power-else-rho-ge0.result (nat_abs (pos 0 -ℤ c.args.rho)) c.requires.0 (turned_small c.args.rho c.requires.1)
    q-is in
    let s = c in
    let rho = c.args.rho in
    let fr = c.ranges.rho in
    let fv = c.ranges.v in
    let p = c.power-else-rho-ge0.result in
    let fp = ok w64 p c.power-else-rho-ge0.type_inv in
    let h = small in
    let m = p *ℤ c.args.v in
    let fm : SFits w64 m = omega zs in
    let fm1 : SFits w64 (m +ℤ pos 1) = omega (zs, add m (pos 1)) in
    let ff = floor_fits (m +ℤ pos 1) 2 fm1 in
    let t = simp to_z-of_z at c.if-rho-ge0.false in
    simp (to_z-of_z, shr_floor) (rw q-is (gain_left rho c.args.v t))

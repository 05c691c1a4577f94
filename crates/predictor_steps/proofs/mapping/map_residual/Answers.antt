-- `predictor_steps::mapping::map_residual` meets its contract: the calls give the prediction, its distance from the ends, the parity and the residual, and the mapped value fits.
use Rattle.std.proofs.Common.{◌≡◌, ◌∙◌, ℕ, ◌^◌, ◌≤◌, ℤ, nat_abs, ◌-ℤ◌, lit<, arith, SFits, w64, to_z-of_z}
use Rattle.integers.specs.Integer.{floor_div}
use Rattle.integers.proofs.Laws.{zs, ok, wide, sub, one0, abs_parts, floor}
use Rattle.predictor.specs.Mapping.{theta, mapped_by}
use Rattle.predictor.specs.Asks.{Sized}
use Rattle.predictor_steps.proofs.Maps.{map_le, theta_le}
use Rattle.predictor_steps.proofs.mapping.map_residual.Goals as goal

-- the sizes of a prediction, its residual and its distance from the ends
module _ {scaled low high p : ℤ} (sizes : Sized scaled low high) (p-is : p ≡ floor_div scaled 2) where
  p-size : nat_abs p ≤ 2 ^ 29
  p-size =
      let q = floor_div scaled 2 in
      rw p-is (omega (arith, floor scaled 2 (lit< tt), abs_parts scaled, abs_parts q, one0 q, one0 scaled, sizes.scaled_small))

  d-size : (sample : ℤ) → nat_abs sample ≤ 2 ^ 29 → nat_abs (sample -ℤ p) ≤ 2 ^ 30
  d-size sample h = omega (arith, sub sample p, abs_parts sample, abs_parts p, abs_parts (sample -ℤ p), p-size)

  d-fits : (sample : ℤ) → nat_abs sample ≤ 2 ^ 29 → SFits w64 (sample -ℤ p)
  d-fits sample h = omega (zs, abs_parts (sample -ℤ p), d-size sample h)

  t-size : {t : ℕ} → t ≡ theta low high p → t ≤ 2 ^ 30
  t-size e = omega (arith, e, theta_le low high p, p-size, sizes.low_small)

pub map_by-requires : goal.map_by-requires
map_by-requires c =
    let f = c.ranges.sample in
    let fs = c.ranges.scaled in
    let fp = ok w64 c.predicted-prediction.result c.predicted-prediction.type_inv in
    let p-is : c.predicted-prediction.result ≡ floor_div c.args.scaled 2 = simp (to_z-of_z, fs) at c.predicted-prediction.ensures in
    let t-is = simp (to_z-of_z, fp) at c.theta-distance.ensures in
    let d = d-size c.requires.0 p-is c.args.sample c.requires.1 in
    let t = t-size c.requires.0 p-is t-is in
    simp (to_z-of_z, f, wide f, fp, d-fits c.requires.0 p-is c.args.sample c.requires.1) (omega arith, omega arith)

pub overflow_cast-result : goal.overflow_cast-result
overflow_cast-result c =
    let f = c.ranges.sample in
    let fs = c.ranges.scaled in
    let fp = ok w64 c.predicted-prediction.result c.predicted-prediction.type_inv in
    let p-is : c.predicted-prediction.result ≡ floor_div c.args.scaled 2 = simp (to_z-of_z, fs) at c.predicted-prediction.ensures in
    let t-is = simp (to_z-of_z, fp) at c.theta-distance.ensures in
    let m-is = simp (to_z-of_z, f, wide f, fp, d-fits c.requires.0 p-is c.args.sample c.requires.1) at c.map_by.ensures in
    omega (
      arith,
      m-is,
      map_le c.is_even-even.result (c.args.sample -ℤ c.predicted-prediction.result) c.theta-distance.result,
      d-size c.requires.0 p-is c.args.sample c.requires.1,
      t-size c.requires.0 p-is t-is,
    )

pub returns : goal.returns
unfolding mapped_by
returns c =
    let f = c.ranges.sample in
    let fs = c.ranges.scaled in
    let fp = ok w64 c.predicted-prediction.result c.predicted-prediction.type_inv in
    let p-is : c.predicted-prediction.result ≡ floor_div c.args.scaled 2 = simp (to_z-of_z, fs) at c.predicted-prediction.ensures in
    let t-is = simp (to_z-of_z, fp) at c.theta-distance.ensures in
    let e-is = simp (to_z-of_z, fs) at c.is_even-even.ensures in
    let m-is = simp (to_z-of_z, f, wide f, fp, d-fits c.requires.0 p-is c.args.sample c.requires.1) at c.map_by.ensures in
    m-is ∙ rw (e-is, t-is, p-is)

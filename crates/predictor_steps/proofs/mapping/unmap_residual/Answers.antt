-- `predictor_steps::mapping::unmap_residual` meets its contract: the calls give the parts of the definition, and the sample lies in its range, so that it fits.
use Rattle.std.proofs.Common.{◌≡◌, ℕ, ◌^◌, ◌≤◌, ℤ, pos, nat_abs, ◌+ℤ◌, ◌-ℤ◌, ◌≤ℤ◌, lit<, arith, rules, SFits, w32, w64, to_z-of_z}
use Rattle.integers.specs.Integer.{floor_div}
use Rattle.integers.proofs.Laws.{zs, ok, wide, sub, one0, abs_parts, floor}
use Rattle.predictor.specs.Mapping.{theta, unmapped_by}
use Rattle.predictor.specs.Asks.{Ranged}
use Rattle.predictor_steps.proofs.Maps.{theta_le, unmapped_in}
use Rattle.predictor_steps.proofs.mapping.unmap_residual.Goals as goal

-- the sizes of a prediction and its distances from the ends, and the sample behind it
module _ {scaled low high : ℤ} (r : Ranged scaled low high) where
  module _ {p : ℤ} (p-is : p ≡ floor_div scaled 2) where
    p-size : nat_abs p ≤ 2 ^ 30
    p-size =
        let q = floor_div scaled 2 in
        rw p-is (omega (arith, floor scaled 2 (lit< tt), abs_parts scaled, abs_parts q, r.sizes.scaled_small))

    below-fits : SFits w64 (p -ℤ low)
    below-fits = omega (zs, sub p low, abs_parts p, abs_parts low, p-size, r.sizes.low_small)

    above-fits : SFits w64 (high -ℤ p)
    above-fits = omega (zs, sub high p, abs_parts p, abs_parts high, p-size, r.sizes.high_small)

    t-size : {t : ℕ} → t ≡ theta low high p → t ≤ 2 ^ 31
    t-size e = omega (arith, e, theta_le low high p, p-size, r.sizes.low_small)

  sample-fits : {x : ℤ} (delta : ℕ) → pos delta ≤ℤ (high -ℤ low) → x ≡ unmapped_by low high scaled delta → SFits w32 x
  sample-fits delta h e =
      let u = unmapped_by low high scaled delta in
      let k = unmapped_in delta r h in
      rw e (omega (zs, k.0, k.1, abs_parts low, abs_parts high, r.sizes.low_small, r.sizes.high_small, one0 u))

pub unmap_by-residual-requires : goal.unmap_by-residual-requires
unmap_by-residual-requires c =
    let fs = c.ranges.scaled in
    let fp = ok w64 c.predicted-prediction.result c.predicted-prediction.type_inv in
    let p-is : c.predicted-prediction.result ≡ floor_div c.args.scaled 2 = simp (to_z-of_z, fs) at c.predicted-prediction.ensures in
    let t-is = simp (to_z-of_z, fp) at c.theta-distance.ensures in
    let t = t-size c.requires.0 p-is t-is in
    (omega arith, omega arith)

pub overflow_add-result : goal.overflow_add-result
unfolding unmapped_by
overflow_add-result c =
    let r = c.requires.0 in
    let range = c.args.range in
    let l : SFits w32 range.low = search rules in
    let h : SFits w32 range.high = search rules in
    let fs = c.ranges.scaled in
    let fp = ok w64 c.predicted-prediction.result c.predicted-prediction.type_inv in
    let fr = ok w64 c.unmap_by-residual.result c.unmap_by-residual.type_inv in
    let p-is : c.predicted-prediction.result ≡ floor_div c.args.scaled 2 = simp (to_z-of_z, fs) at c.predicted-prediction.ensures in
    let t-is = simp (to_z-of_z, fp) at c.theta-distance.ensures in
    let e-is = simp (to_z-of_z, fs) at c.is_even-even.ensures in
    let d-is = simp (to_z-of_z, l, wide l, h, wide h, fp, below-fits r p-is, above-fits r p-is) at c.unmap_by-residual.ensures in
    let sum_is : c.predicted-prediction.result +ℤ c.unmap_by-residual.result ≡ unmapped_by range.low range.high c.args.scaled c.args.delta =
    rw (d-is, e-is, t-is, p-is) in
    simp (to_z-of_z, fp, fr) (wide (sample-fits r c.args.delta c.requires.1 sum_is))

pub overflow_cast-result : goal.overflow_cast-result
unfolding unmapped_by
overflow_cast-result c =
    let r = c.requires.0 in
    let range = c.args.range in
    let l : SFits w32 range.low = search rules in
    let h : SFits w32 range.high = search rules in
    let fs = c.ranges.scaled in
    let fp = ok w64 c.predicted-prediction.result c.predicted-prediction.type_inv in
    let fr = ok w64 c.unmap_by-residual.result c.unmap_by-residual.type_inv in
    let p-is : c.predicted-prediction.result ≡ floor_div c.args.scaled 2 = simp (to_z-of_z, fs) at c.predicted-prediction.ensures in
    let t-is = simp (to_z-of_z, fp) at c.theta-distance.ensures in
    let e-is = simp (to_z-of_z, fs) at c.is_even-even.ensures in
    let d-is = simp (to_z-of_z, l, wide l, h, wide h, fp, below-fits r p-is, above-fits r p-is) at c.unmap_by-residual.ensures in
    let sum_is : c.predicted-prediction.result +ℤ c.unmap_by-residual.result ≡ unmapped_by range.low range.high c.args.scaled c.args.delta =
    rw (d-is, e-is, t-is, p-is) in
    let f = sample-fits r c.args.delta c.requires.1 sum_is in
    simp (to_z-of_z, fp, fr, wide f) f

pub returns : goal.returns
unfolding unmapped_by
returns c =
    let r = c.requires.0 in
    let range = c.args.range in
    let l : SFits w32 range.low = search rules in
    let h : SFits w32 range.high = search rules in
    let fs = c.ranges.scaled in
    let fp = ok w64 c.predicted-prediction.result c.predicted-prediction.type_inv in
    let fr = ok w64 c.unmap_by-residual.result c.unmap_by-residual.type_inv in
    let p-is : c.predicted-prediction.result ≡ floor_div c.args.scaled 2 = simp (to_z-of_z, fs) at c.predicted-prediction.ensures in
    let t-is = simp (to_z-of_z, fp) at c.theta-distance.ensures in
    let e-is = simp (to_z-of_z, fs) at c.is_even-even.ensures in
    let d-is = simp (to_z-of_z, l, wide l, h, wide h, fp, below-fits r p-is, above-fits r p-is) at c.unmap_by-residual.ensures in
    let sum_is : c.predicted-prediction.result +ℤ c.unmap_by-residual.result ≡ unmapped_by range.low range.high c.args.scaled c.args.delta =
    rw (d-is, e-is, t-is, p-is) in
    let f = sample-fits r c.args.delta c.requires.1 sum_is in
    simp (to_z-of_z, fp, fr, wide f, f) sum_is

-- `predictor_steps::mapping::theta` meets its contract: both distances fit, and the smaller is answered.
use Rattle.std.proofs.Common.{◌≡◌, nat_abs, ◌-ℤ◌, arith, rules, SFits, w32, w64, to_z-of_z}
use Rattle.integers.proofs.Laws.{wide, sz_abs, sz_of, sz_sub, sz_fits}
use Rattle.predictor.specs.Mapping.{theta}
use Rattle.predictor_steps.proofs.mapping.theta.Goals as goal

pub returns : goal.returns
unfolding theta
returns c =
    let p = c.args.prediction in
    let r = c.args.range in
    let f = c.ranges.prediction in
    let l : SFits w32 r.low = search rules in
    let h : SFits w32 r.high = search rules in
    let zp = sz_abs p c.requires in
    let below-fits : SFits w64 (p -ℤ r.low) = sz_fits (sz_sub zp (sz_of l)) tt in
    let above-fits : SFits w64 (r.high -ℤ p) = sz_fits (sz_sub (sz_of h) zp) tt in
    let below-is : c.magnitude-below.result ≡ nat_abs (p -ℤ r.low) = simp (to_z-of_z, f, l, wide l, below-fits) at c.magnitude-below.ensures in
    let above-is : c.magnitude-above.result ≡ nat_abs (r.high -ℤ p) = simp (to_z-of_z, f, h, wide h, above-fits) at c.magnitude-above.ensures in
    omega (arith, c.min.ensures, below-is, above-is)

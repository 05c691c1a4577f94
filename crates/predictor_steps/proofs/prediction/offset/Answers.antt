-- `predictor_steps::prediction::offset` meets its contract: the difference and its product fit.
use Rattle.std.proofs.Common.{ap, ℤ, pos, ◌-ℤ◌, ◌*ℤ◌, w64, to_z-of_z}
use Rattle.integers.proofs.Laws.{ok, sz_abs, sz_fits}
use Rattle.predictor_steps.proofs.PredictionFits.{offset_fits}
use Rattle.predictor_steps.proofs.Sizes.{power_small}
use Rattle.predictor_steps.proofs.prediction.offset.Goals as goal

pub overflow_mul-result-2 : goal.overflow_mul-result-2
overflow_mul-result-2 c =
    let f = offset_fits c.args.sum c.args.range.middle c.power.result (sz_fits (sz_abs c.args.range.middle c.requires.1) tt) c.ranges.sum
    (ok w64 c.power.result c.power.type_inv)
    c.requires.0 c.requires.1 (power_small c.args.resolution 19 c.power.result c.requires.2 c.power.ensures) in
    simp (to_z-of_z, f.mid32, f.mid64, f.m, f.s64, f.d, f.p64) f.pd

pub returns : goal.returns
returns c =
    let f = offset_fits c.args.sum c.args.range.middle c.power.result (sz_fits (sz_abs c.args.range.middle c.requires.1) tt) c.ranges.sum
    (ok w64 c.power.result c.power.type_inv)
    c.requires.0 c.requires.1 (power_small c.args.resolution 19 c.power.result c.requires.2 c.power.ensures) in
    simp (to_z-of_z, f.mid32, f.mid64, f.m, f.s64, f.d, f.p64, f.pd)
    (ap (λ (q : ℤ). q *ℤ (c.args.sum -ℤ pos 4 *ℤ c.args.range.middle)) c.power.ensures, f.size)

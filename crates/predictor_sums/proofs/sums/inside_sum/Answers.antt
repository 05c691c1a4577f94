-- `predictor_sums::sums::inside_sum` meets its contract: every number on the way fits.
use Rattle.std.proofs.Common.{to_z-of_z}
use Rattle.predictor_sums.proofs.SumFits.{Inside, inside_fits}
use Rattle.predictor_sums.proofs.sums.inside_sum.Goals as goal

pub overflow_add-result-3 : goal.overflow_add-result-3
overflow_add-result-3 c =
    let at : Inside c.args.west c.args.corner c.args.north c.args.east =
    inside_fits c.args.west c.args.corner c.args.north c.args.east c.ranges.west c.ranges.corner c.ranges.north
    c.ranges.east in
    search (to_z-of_z, at)

pub returns : goal.returns
returns c =
    let at : Inside c.args.west c.args.corner c.args.north c.args.east =
    inside_fits c.args.west c.args.corner c.args.north c.args.east c.ranges.west c.ranges.corner c.ranges.north
    c.ranges.east in
    search (to_z-of_z, at)

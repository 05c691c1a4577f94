-- Bands times rows, or frames times their sub-frames; both are small.
use Rattle.std.proofs.Common.{sym, arith}
use Rattle.body.specs.Order.{sub_frames}
use Rattle.body_value.proofs.Plans.{legal}
use Rattle.body_walk.proofs.Orders.{count_bands, count_frames}
use Rattle.body_walk.proofs.rows.row_count.Goals as goal

pub returns-then-i : goal.returns-then-i
returns-then-i c =
    sym (count_bands c.args.p.settings.image 0 c.if-i.true)

pub overflow_sub-result : goal.overflow_sub-result
overflow_sub-result c =
    let b = ((legal c.args.p).image.interleaved c.if-i.false).0 in omega arith

pub nonzero_div-result : goal.nonzero_div-result
nonzero_div-result c =
    let b = ((legal c.args.p).image.interleaved c.if-i.false).0 in omega arith

pub returns : goal.returns
unfolding sub_frames
returns c =
    sym (count_frames c.args.p.settings.image 0 c.if-i.false)

-- Quotient and remainder of the number are the row’s.
use Rattle.std.proofs.Common.{sym, arith}
use Rattle.body.specs.Order.{sub_frames}
use Rattle.body_value.proofs.Plans.{legal}
use Rattle.body_walk.proofs.Orders.{at_band, at_frame_min, band_below, some_frames, from_below, count_bands}
use Rattle.body_walk.proofs.rows.row_at.Goals as goal

pub nonzero_div-z : goal.nonzero_div-z
nonzero_div-z c =
    let h = (legal c.args.p).image.ny_least in omega arith

pub nonzero_rem-result : goal.nonzero_rem-result
nonzero_rem-result c =
    let h = (legal c.args.p).image.ny_least in omega arith

pub overflow_add-result : goal.overflow_add-result
overflow_add-result c =
    let e = count_bands c.args.p.settings.image 0 c.if-i.true in let p = c.requires in let h = band_below c.args.p.settings.image c.args.n (legal c.args.p).image.ny_least (omega arith) in let k = (legal c.args.p).image.nz_most in omega arith

pub returns-then-i : goal.returns-then-i
returns-then-i c =
    sym (at_band c.args.p.settings.image c.args.n c.if-i.true)

pub overflow_sub-frames : goal.overflow_sub-frames
overflow_sub-frames c =
    let b = ((legal c.args.p).image.interleaved c.if-i.false).0 in omega arith

pub nonzero_div-frames : goal.nonzero_div-frames
nonzero_div-frames c =
    let b = ((legal c.args.p).image.interleaved c.if-i.false).0 in omega arith

pub nonzero_rem-from : goal.nonzero_rem-from
unfolding sub_frames
nonzero_rem-from c =
    let b = (some_frames c.args.p.settings.image c.args.n ((legal c.args.p).image.interleaved c.if-i.false).0 (legal c.args.p).image.nz_least) in omega arith

pub overflow_mul-from : goal.overflow_mul-from
unfolding sub_frames
overflow_mul-from c =
    let b = (from_below c.args.p.settings.image c.args.n ((legal c.args.p).image.interleaved c.if-i.false).0 (legal c.args.p).image.nz_least) in let k = (legal c.args.p).image.nz_most in omega arith

pub overflow_add-from : goal.overflow_add-from
unfolding sub_frames
overflow_add-from c =
    let i = (legal c.args.p).image in
    let m = i.interleaved c.if-i.false in
    let b = from_below c.args.p.settings.image c.args.n m.0 i.nz_least in
    let k = i.nz_most in
    let d = m.1 in omega arith

pub nonzero_div-result : goal.nonzero_div-result
unfolding sub_frames
nonzero_div-result c =
    let b = (some_frames c.args.p.settings.image c.args.n ((legal c.args.p).image.interleaved c.if-i.false).0 (legal c.args.p).image.nz_least) in omega arith

pub returns : goal.returns
unfolding sub_frames
returns c =
    let i = (legal c.args.p).image in
    sym (at_frame_min c.args.p.settings.image c.args.n c.if-i.false (i.interleaved c.if-i.false).0 i.nz_least c.min.ensures)

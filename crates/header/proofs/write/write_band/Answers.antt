-- Each turn puts the weight of the next component.
use Rattle.std.proofs.Common.{ap, arith}
use Rattle.bitstream.proofs.Writes.{put_as}
use Rattle.bitstream.proofs.Laws.{length_bits}
use Rattle.bitstream.specs.Stream.{bits}
use Rattle.settings.specs.Lists.{join}
use Rattle.header.proofs.Joins.{joins_begin, joins_more, joins_all}
use Rattle.header.proofs.WriteLaws.{facts, narrow, weight_bits_at, weight_taken, length_band_part}
use Rattle.header.proofs.write.write_band.Goals as goal

pub overflow_add-weight-items : goal.overflow_add-weight-items
overflow_add-weight-items c =
    let n = narrow _ c.args.z (facts _ _ c.requires.0) c.requires.1 in
    omega (arith, c.requires.0.area, c.component_count-count.ensures, n.few)

pub slice_bounds-weight-items-end : goal.slice_bounds-weight-items-end
slice_bounds-weight-items-end c =
    let n = narrow _ c.args.z (facts _ _ c.requires.0) c.requires.1 in
    omega (arith, c.requires.0.area, c.component_count-count.ensures, n.few)

pub loop-weight-init : goal.loop-weight-init
loop-weight-init c = joins_begin _ _ _ _ _

pub twos-requires : goal.twos-requires
twos-requires c =
    let n = narrow _ c.args.z (facts _ _ c.requires.0) c.requires.1 in
    let w = weight_taken _ _ _ _ _ c.requires.0 c.requires.1 c.requires.2 c.component_count-count.ensures c.loop-weight-test.true in
    (n.least, n.most, rw w.is w.legal)

pub put-tail-requires : goal.put-tail-requires
put-tail-requires c =
    let n = narrow _ c.args.z (facts _ _ c.requires.0) c.requires.1 in
    let j = c.loop-weight.invariant in
    (omega (arith, n.most), c.twos.ensures.1, omega (arith, j.size, j.most, c.component_count-count.ensures, n.few))

pub loop-weight-preserved : goal.loop-weight-preserved
loop-weight-preserved c =
    let l = c.loop-weight in
    let n = narrow _ c.args.z (facts _ _ c.requires.0) c.requires.1 in
    let w = weight_taken _ _ _ _ _ c.requires.0 c.requires.1 c.requires.2 c.component_count-count.ensures c.loop-weight-test.true in
    let value = rw w.is at c.twos.ensures.0 in
    joins_more _ _ _ _ _ l.weight-index l.tail _ l.out _ l.invariant w.room (rw length_bits n.most) c.put-tail.auto.out (put_as (ap (bits c.args.s.predictor.precision) value) c.put-tail.ensures)

pub returns : goal.returns
returns c =
    let n = narrow _ c.args.z (facts _ _ c.requires.0) c.requires.1 in
    let part = length_band_part c.args.tables.now c.args.z c.component_count-count.result (omega (arith, c.requires.0.area, c.component_count-count.ensures, n.few)) in
    put_as (ap (join (weight_bits_at _ _ _) 0) c.component_count-count.ensures) (joins_all _ _ _ _ _ _ _ _ c.loop-weight.invariant (omega (arith, part)))

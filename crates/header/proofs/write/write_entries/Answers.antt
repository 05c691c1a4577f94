-- Each turn puts the k' of the next band.
use Rattle.std.proofs.Common.{ap, arith}
use mir.Facts.{to_z-of_z}
use Rattle.bitstream.proofs.Writes.{put_as}
use Rattle.bitstream.proofs.Laws.{length_bits}
use Rattle.bitstream.specs.Stream.{bits}
use Rattle.header.proofs.Joins.{joins_begin, joins_more, joins_all}
use Rattle.header.proofs.Signs.{accumulator_natural}
use Rattle.header.proofs.WriteLaws.{facts, accumulator_at}
use Rattle.header.specs.Tables.{accumulator_table}
use Rattle.settings.specs.Tables.{entry}
use Rattle.header.proofs.write.write_entries.Goals as goal

pub loop-z-init : goal.loop-z-init
loop-z-init c = joins_begin _ _ _ _ _

pub put-tail-requires : goal.put-tail-requires
unfolding entry
put-tail-requires c =
    let f = facts _ _ c.requires.0 in
    let n = accumulator_natural _ _ f.all.image.depth_most (accumulator_at _ _ c.requires.0 _ c.loop-z-test.true c.requires.1) in
    let value = rw (to_z-of_z n.0.fits) at c.unsigned_abs.ensures.value in
    (omega arith, omega (arith, value, n.1), omega (arith, c.loop-z.invariant.size, f.bands))

pub loop-z-preserved : goal.loop-z-preserved
unfolding entry
loop-z-preserved c =
    let l = c.loop-z in
    let n = accumulator_natural _ _ (facts _ _ c.requires.0).all.image.depth_most (accumulator_at _ _ c.requires.0 _ c.loop-z-test.true c.requires.1) in
    let value = rw (to_z-of_z n.0.fits) at c.unsigned_abs.ensures.value in
    joins_more _ _ _ _ _ l.z l.tail _ l.out _ l.invariant c.loop-z-test.true (rw length_bits (omega arith)) c.put-tail.auto.out (put_as (ap (bits 4) value) c.put-tail.ensures)

pub returns : goal.returns
unfolding accumulator_table
returns c = joins_all _ _ _ _ _ c.loop-z.z _ _ c.loop-z.invariant (omega arith)

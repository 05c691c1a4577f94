-- Each turn puts the weights of the next band.
use Rattle.std.proofs.Common.{arith}
use Rattle.header.proofs.Joins.{joins_begin, joins_more, joins_all}
use Rattle.header.proofs.WriteLaws.{facts, narrow, band_most}
use Rattle.header.specs.Tables.{weight_table}
use Rattle.header.proofs.write.write_bands.Goals as goal

pub loop-z-init : goal.loop-z-init
loop-z-init c = joins_begin _ _ _ _ _

pub loop-z-preserved : goal.loop-z-preserved
loop-z-preserved c =
    let l = c.loop-z in
    let n = narrow c.args.s l.z (facts _ _ c.requires.0) c.requires.1 in
    joins_more _ _ _ _ _ l.z l.tail _ l.out _ l.invariant c.loop-z-test.true (band_most _ _ _ _ n.most n.few) c.write_band-tail.auto.out c.write_band-tail.ensures

pub returns : goal.returns
unfolding weight_table
returns c = joins_all _ _ _ _ _ c.loop-z.z _ _ c.loop-z.invariant (omega arith)

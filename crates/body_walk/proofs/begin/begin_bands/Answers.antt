-- Band after band, each from its tables.
use Rattle.body_walk.proofs.Bodies.{begun_more}
use Rattle.body_walk.proofs.begin.begin_bands.Goals as goal

pub loop-z-preserved : goal.loop-z-preserved
loop-z-preserved c =
    let v = c.loop-z in
    begun_more c.begin_band.new.slots c.requires c.loop-z-test.true v.auto.scratch c.begin_band.ensures v.invariant

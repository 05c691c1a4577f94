-- All bands begun, then all rows: the body.
use Rattle.body_walk.proofs.Bodies.{writes, written}
use Rattle.body_walk.proofs.whole.write_body.Goals as goal

pub write_rows-requires : goal.write_rows-requires
write_rows-requires c =
    let b = c.begin_bands in
    writes c.requires.tabled b.ensures b.auto.scratch c.requires

pub returns : goal.returns
returns c =
    let b = c.begin_bands in
    written c.requires.tabled b.ensures b.auto.scratch c.write_rows.ensures

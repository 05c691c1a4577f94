-- All bands begun, then all rows: the body, or why it is none.
use Rattle.bitstream.specs.Stream.{unpack}
use Rattle.body_walk.proofs.Bodies.{reads, answered}
use Rattle.body_walk.proofs.whole.read_body.Goals as goal

pub read_rows-requires : goal.read_rows-requires
read_rows-requires c =
    let b = c.begin_bands in
    reads c.requires.tabled b.ensures b.auto.scratch c.requires

pub returns : goal.returns
returns c =
    let b = c.begin_bands in
    let r = c.read_rows in
    answered c.requires.tabled b.ensures b.auto.scratch c.args.image.now (unpack c.args.file.now) c.args.at r.new.image r.new.scratch r.result r.ensures

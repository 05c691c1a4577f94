-- The band’s slots are lent to the value and come back.
use Rattle.bitstream.specs.Stream.{unpack}
use Rattle.body_walk.proofs.Takes.{reading, stepped}
use Rattle.body_walk.proofs.reader.ReaderDirection.value.Goals as goal

pub read_value-requires : goal.read_value-requires
read_value-requires c = reading c.requires.0 c.requires.1

pub returns : goal.returns
returns c =
    let r = c.read_value in
    stepped c.requires.0 c.requires.1 (unpack c.args.self.now.file.now) r.new.image r.new.slots r.result r.ensures

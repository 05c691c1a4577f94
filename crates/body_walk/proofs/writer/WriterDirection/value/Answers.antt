-- The band’s slots are lent to the value and come back.
use Rattle.body_walk.proofs.Moves.{writing, wrote}
use Rattle.body_walk.proofs.writer.WriterDirection.value.Goals as goal

pub write_value-requires : goal.write_value-requires
write_value-requires c = writing c.requires.0 c.requires.1

pub returns : goal.returns
returns c = wrote c.requires.0 c.requires.1 c.write_value.ensures

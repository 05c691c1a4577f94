-- A file ends before a bit where it ends before that bit's byte.
use Rattle.header_reader.proofs.Answering.{ends_as}
use Rattle.header_reader.proofs.read.ends_before.Goals as goal

pub returns : goal.returns
returns c = ends_as c.args.file.now c.args.end

-- The zeros that a number of bits asks for are what its padded number has more.
use Rattle.std.proofs.Common.{ap, ◌∙◌, arith}
use Rattle.bitstream.specs.Stream.{zeros}
use Rattle.bitstream.proofs.Laws.{bits_zero}
use Rattle.bitstream.proofs.Writes.{put_as}
use Rattle.header.proofs.write.write_fill.Goals as goal

pub returns : goal.returns
returns c = put_as (bits_zero _ ∙ ap zeros (omega (arith, c.padded.ensures))) c.put.ensures

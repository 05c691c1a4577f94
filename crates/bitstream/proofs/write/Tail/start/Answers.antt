-- The empty stream has no bits. Assumes nothing.
use mathlib.Core.Path.{refl}
use Rattle.bitstream.proofs.Laws.{no_bits}
use Rattle.bitstream.specs.Stream.{unpack}
use Rattle.bitstream.proofs.write.Tail.start.Goals as goal

pub returns : goal.returns
unfolding unpack
returns c = (refl, λ out. record { size = refl; kept = λ k. no_bits 0 })

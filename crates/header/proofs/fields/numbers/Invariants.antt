-- Each turn reads the field behind those read before.
use Rattle.std.proofs.Common.{◌≡◌}
use Rattle.bitstream.specs.Stream.{unpack}
use Rattle.header.proofs.Numbers.{Reads}
use Rattle.header.proofs.fields.numbers.Given as goal

abbrev pub invariant-loop-i : goal.invariant-loop-i
invariant-loop-i l = (l.rest.file ≡ l.bits.file) × Reads (unpack l.bits.file.now) l.bits.at l.widths l.initial.values l.values l.rest.at l.i

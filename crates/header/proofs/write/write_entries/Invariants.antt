-- Each turn puts the k' of the next band.
use Rattle.std.proofs.Common.{nat_abs}
use Rattle.bitstream.specs.Stream.{bits}
use Rattle.header.proofs.Joins.{Joins}
use Rattle.settings.specs.Tables.{parameter_slot, entry}
use Rattle.header.proofs.write.write_entries.Given as goal

abbrev pub invariant-loop-z : goal.invariant-loop-z
invariant-loop-z l = Joins (λ y. bits 4 (nat_abs (entry l.tables y parameter_slot))) 4 l.z-end l.initial.tail l.initial.out l.z l.tail l.out

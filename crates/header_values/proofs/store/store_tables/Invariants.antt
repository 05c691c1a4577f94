-- Each turn lays the next band.
use Rattle.bitstream.specs.Stream.{unpack}
use Rattle.header_values.proofs.StoreLaws.{Bands}
use Rattle.header_values.proofs.store.store_tables.Given as goal

abbrev pub invariant-loop-z : goal.invariant-loop-z
invariant-loop-z l = Bands (unpack l.file) l.s l.initial.tables l.first l.z l.tables

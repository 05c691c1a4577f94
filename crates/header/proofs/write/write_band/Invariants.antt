-- Each turn puts the weight of the next component.
use Rattle.header.proofs.Joins.{Joins}
use Rattle.header.proofs.WriteLaws.{weight_bits_at}
use Rattle.header.proofs.write.write_band.Given as goal

abbrev pub invariant-loop-weight : goal.invariant-loop-weight
invariant-loop-weight l = Joins (weight_bits_at l.q l.tables l.z) 22 l.count l.initial.tail l.initial.out l.weight-index l.tail l.out

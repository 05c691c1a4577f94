-- Each turn puts the weights of the next band.
use Rattle.std.proofs.Common.{◌*◌}
use Rattle.header.proofs.Joins.{Joins}
use Rattle.header.proofs.WriteLaws.{weight_bits_at}
use Rattle.settings.specs.Lists.{join}
use Rattle.settings.specs.Tables.{component_count}
use Rattle.header.proofs.write.write_bands.Given as goal

abbrev pub invariant-loop-z : goal.invariant-loop-z
invariant-loop-z l = Joins (λ y. join (weight_bits_at l.s.predictor.precision l.tables y) 0 (component_count l.s.predictor y)) (22 * 18) l.z-end l.initial.tail l.initial.out l.z l.tail l.out

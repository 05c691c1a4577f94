-- The sum is that of the bands passed, at most 18 a band.
use Rattle.std.proofs.Common.{◌≡◌, ◌*◌, ◌≤◌}
use Rattle.header.specs.Tables.{components_before}
use Rattle.header.proofs.sizes.components_before.Given as goal

abbrev pub invariant-loop-z : goal.invariant-loop-z
invariant-loop-z l = (l.sum ≡ components_before l.p l.z) × (l.sum ≤ 18 * l.z)

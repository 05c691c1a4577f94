-- Band after band, each from its tables.
use Rattle.body_walk.specs.Begun.{Begun}
use Rattle.body_walk.proofs.begin.begin_bands.Given as goal

abbrev pub invariant-loop-z : goal.invariant-loop-z
invariant-loop-z l = Begun l.p l.tables l.scratch l.z

-- Turn by turn the front is zero and the rest is as it was.
use Rattle.std.proofs.Common.{◌≡◌, ◌++◌, ◌≤◌, length, drop, replicate}
use Rattle.closing.proofs.clear.clear.Given as goal

abbrev pub invariant-clear : goal.invariant-clear
invariant-clear g l = (l.held-index ≤ length l.initial.area) × (l.area ≡ replicate l.held-index l.fn.zero ++ drop l.held-index l.initial.area)

-- The candidate is the definition's k or one more, so that the loop, which falls with their difference, takes at most one step.
use Prim.Native.Nat.{◌+◌, ◌-◌, ◌≤◌}
use lib.Count.{count_leading_zeros}
use Rattle.coder.specs.Statistics.{largest}
use Rattle.coder.proofs.selection.code_parameter.Given as goal

abbrev pub invariant-loop-k : goal.invariant-loop-k
invariant-loop-k l =
    (largest l.most l.count l.sum ≤ l.k) × (l.k ≤ largest l.most l.count l.sum + 1) × (l.k ≤ l.most) × (l.k ≤ count_leading_zeros 64 l.count)

abbrev pub decreases-loop-k : goal.decreases-loop-k
decreases-loop-k l = l.k - largest l.most l.count l.sum

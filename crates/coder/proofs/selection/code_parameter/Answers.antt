-- The candidate is the definition's k or one more, so that the loop, which falls with their difference, takes at most one step.
use mathlib.Core.Path.{◌≡◌, ◌∙◌}
use Prim.Native.Nat.{◌-◌, ◌<◌}
use native.Mathlib.Omega.{arith}
use Rattle.coder.specs.Candidate.{candidate, candidate_fits, candidate_most, candidate_least}
use Rattle.coder.specs.Statistics.{largest}
use Rattle.coder.specs.StatisticsLaws.{parameter_most}
use Rattle.coder.proofs.Parameters.{bound, parameter_none, parameter_largest, parameter_of_none, fewer_zeros, shift_lt, found, missed}
use Rattle.coder.proofs.selection.code_parameter.Goals as goal

pub returns-then-sum-count : goal.returns-then-sum-count
returns-then-sum-count c =
    let a = c.args in
    parameter_none a.depth a.s (omega arith)

pub returns-then-depth-le2 : goal.returns-then-depth-le2
returns-then-depth-le2 c =
    let a = c.args in
    let m = parameter_most a.depth a.s in
    omega arith

pub returns-then-count-eq0 : goal.returns-then-count-eq0
returns-then-count-eq0 c =
    let a = c.args in
    omega (arith, parameter_of_none a.depth a.s (omega arith))

pub overflow_sub-longer : goal.overflow_sub-longer
overflow_sub-longer c =
    let a = c.args in
    omega (arith, fewer_zeros 64 a.s.count (bound a.s) (omega arith) (omega arith))

pub loop-k-init : goal.loop-k-init
unfolding candidate
loop-k-init c =
    let a = c.args in
    let e : c.min-k.result ≡ candidate 64 (a.depth - 2) a.s.count (bound a.s) = omega arith in
    let m = candidate_most 64 (a.depth - 2) a.s.count (bound a.s) (omega arith) (omega arith) (omega arith) in
    let l = candidate_least 64 (a.depth - 2) a.s.count (bound a.s) (omega arith) (omega arith) (omega arith) in
    let f = candidate_fits 64 (a.depth - 2) a.s.count (bound a.s) in
    (omega arith, omega arith, omega (arith, f.0), omega (arith, f.1))

pub overflow_shl-count : goal.overflow_shl-count
overflow_shl-count c =
    let a = c.args in
    shift_lt 64 (a.depth - 2) a.s.count (bound a.s) c.loop-k.k (omega arith) (omega arith) c.loop-k.invariant.3

-- where the test fails, k lies above the largest that fits
above : (c : goal.Else-count-k) → let a = c.args in largest (a.depth - 2) a.s.count (bound a.s) < c.loop-k.k
above c =
    let a = c.args in
    let v = c.loop-k in
    missed 64 (a.depth - 2) a.s.count (bound a.s) v.k (omega arith) (omega arith) v.invariant.3 (omega arith) v.invariant.0 (omega arith)

pub overflow_sub-k : goal.overflow_sub-k
overflow_sub-k c = omega (arith, above c)

pub loop-k-smaller : goal.loop-k-smaller
loop-k-smaller c = omega (arith, above c)

pub loop-k-preserved : goal.loop-k-preserved
loop-k-preserved c = let v = c.loop-k.invariant in (omega (arith, above c), omega arith, omega arith, omega arith)

pub returns : goal.returns
returns c =
    let a = c.args in
    let v = c.loop-k in
    found 64 (a.depth - 2) a.s.count (bound a.s) v.k (omega arith) (omega arith) v.invariant.3 v.invariant.2 v.invariant.0 (omega arith)
    ∙ parameter_largest a.depth a.s

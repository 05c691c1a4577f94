-- Each branch is one of the definition's.
use Prim.Native.Nat.{◌-◌, ◌^◌, ◌<◌, ◌≤◌}
use native.Mathlib.Omega.{arith}
use lib.Pow.{pow_pos}
use borrow.Author.Tests.{lt-ltb, le-ltb}
use Rattle.coder.specs.Statistics.{next_statistics}
use Rattle.coder.proofs.counts.next_statistics.Goals as goal

pub overflow_sub-power_of : goal.overflow_sub-power_of
overflow_sub-power_of c = let e = c.power_of.ensures in omega (arith, pow_pos c.args.rescaling)

pub returns-then-count-power_of : goal.returns-then-count-power_of
unfolding next_statistics
returns-then-count-power_of c =
    let a = c.args in
    let e = c.power_of.ensures in
    let h : a.s.count < 2 ^ a.rescaling - 1 = let t = c.if-count-power_of.true in omega arith in
    rw (lt-ltb a.s.count (2 ^ a.rescaling - 1) h)

pub returns-else-count-power_of : goal.returns-else-count-power_of
unfolding next_statistics
returns-else-count-power_of c =
    let a = c.args in
    let e = c.power_of.ensures in
    let h : 2 ^ a.rescaling - 1 ≤ a.s.count = let t = c.if-count-power_of.false in omega arith in
    rw (le-ltb a.s.count (2 ^ a.rescaling - 1) h)

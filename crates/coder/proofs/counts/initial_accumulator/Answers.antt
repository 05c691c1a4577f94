-- The products stay below 2^32.
use mathlib.Core.Path.{ap}
use Prim.Native.Nat.{ℕ, ◌+◌, ◌-◌, ◌*◌, ◌/◌, ◌^◌, ◌≤◌}
use native.Mathlib.Nat.{mul-le-mul}
use native.Mathlib.Omega.{arith}
use Rattle.coder.specs.Statistics.{initial_accumulator}
use Rattle.coder.proofs.Firsts.{scale}
use Rattle.coder.proofs.counts.initial_accumulator.Goals as goal

pub overflow_mul-result : goal.overflow_mul-result
overflow_mul-result c = let p = scale c.requires.0 c.power_of.ensures in omega arith

pub overflow_sub-result : goal.overflow_sub-result
overflow_sub-result c = let p = scale c.requires.0 c.power_of.ensures in omega arith

pub overflow_mul-result-2 : goal.overflow_mul-result-2
overflow_mul-result-2 c =
    let p = scale c.requires.0 c.power_of.ensures in
    let a : 3 * c.power_of.result - 49 ≤ 3 * 2 ^ (14 + 6) - 49 = omega arith in
    let m = mul-le-mul a c.requires.1 in
    omega arith

pub returns : goal.returns
unfolding initial_accumulator
returns c = ap (λ (x : ℕ). (3 * x - 49) * c.args.count / 128) c.power_of.ensures

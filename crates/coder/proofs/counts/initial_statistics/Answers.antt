-- The first statistics are made of their parts.
use mathlib.Core.Path.{◌≡◌, ◌∙◌, ap₂}
use Prim.Native.Nat.{◌^◌}
use native.Mathlib.Omega.{arith}
use Rattle.coder.specs.Statistics.{initial_accumulator, initial_statistics}
use Rattle.coder.proofs.Firsts.{initial_small, count_small, parameter_small}
use Rattle.coder.proofs.counts.initial_statistics.Goals as goal

pub power_of-count-requires : goal.power_of-count-requires
power_of-count-requires c = let h = initial_small c.requires in omega arith

pub initial_accumulator-accumulator-requires : goal.initial_accumulator-accumulator-requires
initial_accumulator-accumulator-requires c =
    let s = c in
    (rw c.initial_parameter-k.ensures (parameter_small c.requires), rw c.power_of-count.ensures (count_small c.requires))

pub returns : goal.returns
unfolding initial_statistics
returns c =
    let s = c in
    let n : c.power_of-count.result ≡ 2 ^ c.args.s.coder.initial = c.power_of-count.ensures in
    let a = c.initial_accumulator-accumulator.ensures ∙ ap₂ initial_accumulator c.initial_parameter-k.ensures n in
    λ i. record { count = n i; accumulator = a i }

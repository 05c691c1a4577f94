-- Both numbers are read off their slots.
use Rattle.body_value.specs.Coder.{statistics_in}
use Rattle.body_value.proofs.coding.held.Goals as goal

pub returns : goal.returns
unfolding statistics_in
returns c =
    let n = c.natural-count.ensures in
    let a = c.natural-accumulator.ensures in
    λ i. record { count = n i; accumulator = a i }

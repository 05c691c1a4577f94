-- `predictor_steps::prediction::inner` meets its contract: what is summed so far and the products to come are the whole sum, and each product adds at most 2^40 to its size.
use Rattle.std.proofs.Common.{◌≡◌, ◌+◌, ◌*◌, ◌^◌, ◌≤◌, drop, ◌+ℤ◌}
use Rattle.integers.specs.Laws.{P, N}
use Rattle.predictor.specs.Prediction.{inner}
use Rattle.predictor_steps.proofs.prediction.inner.Given as goal

abbrev pub invariant-loop-i : goal.invariant-loop-i
invariant-loop-i l =
    record {
      small : P l.sum + N l.sum ≤ l.i * 2 ^ 40;
      so_far : l.sum +ℤ inner (drop l.i l.ws) (drop l.i l.us) ≡ inner l.ws l.us;
    }

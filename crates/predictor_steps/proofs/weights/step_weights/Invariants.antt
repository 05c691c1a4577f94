-- `predictor_steps::weights::step_weights` meets its contract: the slots passed are stepped, and the others are as they were.
use Rattle.std.proofs.Common.{◌≡◌, ℕ, ◌<◌, ◌≤◌, get_or, pos}
use Rattle.predictor.specs.WeightUpdate.{weight_step}
use Rattle.predictor_steps.proofs.weights.step_weights.Given as goal

abbrev pub invariant-loop-i : goal.invariant-loop-i
invariant-loop-i l =
    record {
      stepped : (k : ℕ) → k < l.i → get_or l.ws k (pos 0) ≡ weight_step l.resolution l.rho l.up (get_or l.us k (pos 0)) (get_or l.initial.ws k (pos 0));
      left : (k : ℕ) → l.i ≤ k → get_or l.ws k (pos 0) ≡ get_or l.initial.ws k (pos 0);
    }

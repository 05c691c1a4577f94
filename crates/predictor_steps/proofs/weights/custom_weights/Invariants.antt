-- `predictor_steps::weights::custom_weights` meets its contract: the slots passed hold the weights of their table values.
use Rattle.std.proofs.Common.{◌≡◌, ℕ, ◌+◌, ◌<◌, get_or, pos}
use Rattle.predictor.specs.Weights.{custom_weight}
use Rattle.predictor_steps.proofs.weights.custom_weights.Given as goal

abbrev pub invariant-loop-i : goal.invariant-loop-i
invariant-loop-i l =
    (k : ℕ) → k < l.i → get_or l.ws k (pos 0) ≡ custom_weight l.resolution l.precision (get_or l.tables (l.from + k) (pos 0))

-- `predictor_steps::weights::put_eighths` meets its contract: the slots passed hold eighths, and the weight at hand is the next.
use Rattle.std.proofs.Common.{◌≡◌, ℕ, ◌<◌, ◌≤◌, length, get_or, pos}
use Rattle.predictor.specs.Weights.{eighths}
use Rattle.predictor_steps.proofs.weights.put_eighths.Given as goal

abbrev pub invariant-loop-w : goal.invariant-loop-w
invariant-loop-w l =
    record {
      most : l.weight ≤ l.first;
      put : (k : ℕ) → k < l.w-index → get_or l.w-items k (pos 0) ≡ get_or (eighths (length l.initial.w-items) (pos l.first)) k (pos 0);
      next : l.w-index < length l.initial.w-items → get_or (eighths (length l.initial.w-items) (pos l.first)) l.w-index (pos 0) ≡ pos l.weight;
    }

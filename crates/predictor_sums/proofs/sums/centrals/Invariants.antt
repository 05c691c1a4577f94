-- The slots passed hold the differences of the bands before, nearest first.
use Rattle.std.proofs.Common.{◌≡◌, ℕ, ◌-◌, ◌<◌, get_or, pos}
use Rattle.predictor.specs.Differences.{central_at}
use Rattle.predictor.specs.Asks.{bands_of}
use Rattle.predictor_sums.proofs.sums.centrals.Given as goal

abbrev pub invariant-loop-i : goal.invariant-loop-i
invariant-loop-i l =
    (k : ℕ) → k < l.i → get_or l.us k (pos 0) ≡ central_at l.grid.nx l.grid.column (bands_of l.grid.area l.image (l.z - 1 - k)) l.t

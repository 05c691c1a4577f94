-- On an edge the sum of small samples is small, so that the difference fits.
use Rattle.std.proofs.Common.{◌≡◌, ◌∙◌, ap, pos, get_or, w32, w64, to_z-of_z}
use Rattle.integers.specs.Laws.{ok}
use Rattle.predictor.specs.LocalSum.{Neighbours, local_sum}
use Rattle.predictor_sums.specs.Fetch.{position_of, fetched}
use Rattle.predictor_sums.proofs.Fetches.{fetched_small, sum_small}
use Rattle.predictor_sums.proofs.sums.central.Goals as goal

pub difference-requires : goal.difference-requires
difference-requires c =
    let around : Neighbours =
    let a = c.args in fetched a.above.now a.north a.here.now a.at (position_of a.position) in
    let sum_is : let s = c in
    c.local_sum-sum.result ≡ local_sum c.args.column (position_of c.args.position) around =
    let a = c.args in
    c.local_sum-sum.ensures ∙ ap (λ (n : Neighbours). local_sum a.column (position_of a.position) n) c.fetch-around.ensures in
    let a = c.args in
    let q = c.requires in
    let p = position_of a.position in
    let r = c.local_sum-sum in
    let here = ok w32 (get_or a.here.now a.at (pos 0)) c.difference-arg-1.given in
    let small = sum_small a.column p around (fetched_small a.north a.at p q.above_small q.here_small) in
    simp (to_z-of_z, here, ok w64 r.result r.type_inv) (q.here_small.at a.at, rw sum_is small)

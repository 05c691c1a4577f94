-- All four neighbours are inside, and their sum is small, so that the difference fits.
use Rattle.std.proofs.Common.{◌≡◌, ◌∙◌, ap, false, ℤ, pos, ◌+ℤ◌, get_or, rules, w32, w64, to_z-of_z}
use Rattle.integers.specs.Laws.{ok}
use Rattle.predictor.specs.LocalSum.{Neighbours, local_sum}
use Rattle.predictor.specs.Differences.{difference}
use Rattle.predictor_sums.specs.Fetch.{fetched}
use Rattle.predictor_sums.specs.Asks.{inside}
use Rattle.predictor_sums.proofs.Fetches.{sum_inside, sum_small, fetched_small}
use Rattle.predictor_sums.proofs.sums.inside_central.Goals as goal

pub difference-requires : goal.difference-requires
difference-requires c =
    let around : Neighbours =
    let a = c.args in fetched a.above.now a.north a.here.now a.at inside in
    let sum_is : c.inside_sum-sum.result ≡ local_sum false inside around =
    let n = around in
    let e : c.inside_sum-sum.result ≡ n.west +ℤ n.north_west +ℤ n.north +ℤ n.north_east = search rules in
    e ∙ sum_inside n in
    let q = c.requires in
    let r = c.inside_sum-sum in
    let small = sum_small false inside around (fetched_small c.args.north c.args.at inside q.above_small q.here_small) in
    let here = ok w32 (get_or c.args.here.now c.args.at (pos 0)) c.difference-arg-1.given in
    simp (to_z-of_z, here, ok w64 r.result r.type_inv) (q.here_small.at c.args.at, rw sum_is small)

pub returns : goal.returns
returns c =
    let around : Neighbours =
    let a = c.args in fetched a.above.now a.north a.here.now a.at inside in
    let sum_is : c.inside_sum-sum.result ≡ local_sum false inside around =
    let n = around in
    let e : c.inside_sum-sum.result ≡ n.west +ℤ n.north_west +ℤ n.north +ℤ n.north_east = search rules in
    e ∙ sum_inside n in
    let a = c.args in
    let sample = get_or a.here.now a.at (pos 0) in
    let r = c.inside_sum-sum in
    let d = c.difference in
    let here = ok w32 sample c.difference-arg-1.given in
    let e = simp (to_z-of_z, here, ok w64 r.result r.type_inv) at d.ensures in
    to_z-of_z (ok w32 d.result d.type_inv) ∙ e ∙ ap (λ (x : ℤ). difference sample x) sum_is

-- The slots passed hold the differences of the bands before, nearest first.
use Rattle.std.proofs.Common.{◌∙◌, ℕ, ◌-◌, ◌*◌, ◌<◌, List, ℤ, arith, length, w32, to_z-of_z}
use Rattle.std.proofs.Math.Arith.{digits_lt}
use Rattle.integers.specs.Laws.{ok}
use Rattle.predictor.specs.LocalSum as local
use Rattle.predictor.specs.Differences.{central_at}
use Rattle.predictor.specs.Each.{done_more}
use Rattle.predictor.specs.Asks.{bands_of}
use Rattle.predictor_sums.specs.declared.sums.Grid.{Grid}
use Rattle.predictor_sums.specs.Asks.{Window, Below}
use Rattle.predictor_sums.proofs.Fetches.{fetching, central_is}
use Rattle.predictor_sums.proofs.Slots.{centrals_are}
use Rattle.predictor_sums.proofs.sums.centrals.Goals as goal

-- place t of the band that slot i is for
window : {image : List ℤ} {n z t : ℕ} {g : Grid} {p : local.Position} (i : ℕ) → Below image n g z t p → i < n → Window image ((z - 1 - i) * g.area) t g.nx
window {z} i q h =
    let f = q.few in
    let z-in : z - 1 - i < z = omega arith in
    let l = digits_lt z-in q.place_in in
    record { later = q.later; wide = q.wide; inside = omega (arith, q.long); most = q.most }

pub central-requires : goal.central-requires
central-requires c =
    let q = c.requires in
    let w = window c.loop-i.i q (omega arith) in
    record {
      around = fetching w q.position_is c.saturating_sub-up.ensures;
      inside = w.inside;
      above_small = q.small;
      here_small = q.small;
    }

pub loop-i-preserved : goal.loop-i-preserved
loop-i-preserved c =
    let a = c.args in
    let g = a.grid in
    let v = c.loop-i in
    let r = c.central in
    let q = c.requires in
    let e = central_is (window v.i q (omega arith)) q.position_is c.saturating_sub-up.ensures g.column q.narrow in
    rw (to_z-of_z (ok w32 r.result r.type_inv))
    (done_more v.us v.i r.result
    (λ k. central_at g.nx g.column (bands_of g.area a.image.now (a.z - 1 - k)) a.t) (omega arith) v.invariant (r.ensures ∙ e))

pub returns : goal.returns
returns c =
    let a = c.args in
    let g = a.grid in
    let v = c.loop-i in
    centrals_are g.nx g.column (bands_of g.area a.image.now) (length a.us.now) a.z a.t v.us (omega arith)
    (λ k p. v.invariant k (omega arith))

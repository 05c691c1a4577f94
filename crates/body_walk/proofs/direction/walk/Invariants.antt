-- Each loop has done all but its own parts left and those of the loops around it.
use Rattle.std.proofs.Common.{◌+◌, ◌-◌, ◌*◌, List, [], ◌++◌}
use Rattle.settings.specs.Lists.{join, one}
use Rattle.body.specs.Order.{Place, order}
use Rattle.body_walk.specs.Rows.{column_places, places_in}
use Rattle.body_walk.specs.Direction.{state_at}
use Rattle.body_walk.proofs.Loops.{Loop}
use Rattle.body_walk.proofs.direction.walk.Given as goal

abbrev pub invariant-loop-n : goal.invariant-loop-n
invariant-loop-n g l =
    Loop (g.D.Direction.part l.d) (order l.p.settings.image) (places_in l.p.settings.image) [] l.n l.count (state_at l.fn.scratch l.fn.filled l.fn.at) (state_at l.scratch l.filled l.next)

abbrev pub invariant-loop-x : goal.invariant-loop-x
invariant-loop-x g l =
    let rows : List Place = join (places_in l.p.settings.image) (l.n + 1) (l.count - (l.n + 1)) ++ [] in
    Loop (g.D.Direction.part l.d) (order l.p.settings.image) (λ x. column_places (record { z = l.row.from; t = l.row.y * l.nx + x; x = x }) l.row.to) rows l.x l.nx
    (state_at l.fn.scratch l.fn.filled l.fn.at) (state_at l.scratch l.filled l.next)

abbrev pub invariant-loop-z : goal.invariant-loop-z
invariant-loop-z g l =
    let rows : List Place = join (places_in l.p.settings.image) (l.n + 1) (l.count - (l.n + 1)) ++ [] in
    let columns : List Place = join (λ x. column_places (record { z = l.row.from; t = l.row.y * l.nx + x; x = x }) l.row.to) (l.x + 1) (l.nx - (l.x + 1)) ++ rows in
    Loop (g.D.Direction.part l.d) (order l.p.settings.image) (λ z. one (record { z = z; t = l.t })) columns l.z l.row.to
    (state_at l.fn.scratch l.fn.filled l.fn.at) (state_at l.scratch l.filled l.next)

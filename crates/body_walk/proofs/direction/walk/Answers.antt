-- Each loop enters the first part of what is left; each place is walked behind what is done, and where one stops, all stop.
use Rattle.std.proofs.Common.{◌≡◌, ◌-◌, refl, sym, ap, ◌∙◌, append-nil, arith}
use Rattle.std.proofs.lemmas.Result.{err_from_is_err_and}
use Rattle.settings.specs.Lists.{join}
use Rattle.body.specs.Order.{column_of, order}
use Rattle.body_walk.specs.Rows.{row_count, places_in}
use Rattle.body_walk.proofs.Loops.{begin, enter, first, leave, turn, again, stopping, all_done}
use Rattle.body_walk.proofs.Orders.{order_is, columns_are, row_inside}
use Rattle.body_walk.proofs.Standings.{strip, inside, inside_as, row_small}
use Rattle.body_walk.proofs.direction.walk.Goals as goal

pub loop-n-init : goal.loop-n-init
loop-n-init g c =
    let l = g.met.D.Direction.laws c.args.d.now in
    let all : row_count c.args.p.settings.image ≡ c.row_count-count.result - 0 = let k = c.row_count-count.ensures in omega arith in
    enter (order_is c.args.p ∙ ap (join (places_in c.args.p.settings.image) 0) all) (begin l (sym (append-nil (order c.args.p.settings.image))) c.requires.ready)

pub loop-x-init : goal.loop-x-init
loop-x-init g c = enter (columns_are c.args.p c.loop-n.n c.row_at-row.ensures) (first c.loop-n.invariant c.loop-n-test.true)

pub overflow_mul-t : goal.overflow_mul-t
overflow_mul-t g c =
    let h = row_small c.args.p (row_inside c.args.p c.loop-n.n c.row_at-row.ensures c.loop-n-test.true c.row_count-count.ensures) in omega arith

pub overflow_add-t : goal.overflow_add-t
overflow_add-t g c =
    let h = row_small c.args.p (row_inside c.args.p c.loop-n.n c.row_at-row.ensures c.loop-n-test.true c.row_count-count.ensures) in
    let x = c.loop-x-test.true in omega arith

pub loop-z-init : goal.loop-z-init
unfolding column_of
loop-z-init g c = enter refl (first c.loop-x.invariant c.loop-x-test.true)

pub value-requires : goal.value-requires
value-requires g c =
    let l = g.met.D.Direction.laws c.args.d.now in
    let row = row_inside c.args.p c.loop-n.n c.row_at-row.ensures c.loop-n-test.true c.row_count-count.ensures in
    let here = inside (strip c.args.p row c.loop-x-test.true) c.loop-z-test.true in
    (turn l (first c.loop-z.invariant c.loop-z-test.true) c.requires.ready, inside_as c.requires.plan here)

pub returns-in_err-next : goal.returns-in_err-next
returns-in_err-next g c =
    let p = err_from_is_err_and c.from_residual.result c.from_residual.ensures.1 in
    let l = g.met.D.Direction.laws c.args.d.now in
    rw (p.1, p.2) (stopping l (first c.loop-z.invariant c.loop-z-test.true) c.in_err-next.ensures)

pub loop-z-preserved : goal.loop-z-preserved
loop-z-preserved g c =
    let l = g.met.D.Direction.laws c.args.d.now in
    record { going = again l (first c.loop-z.invariant c.loop-z-test.true) c.in_ok-next.ensures }

pub loop-x-preserved : goal.loop-x-preserved
loop-x-preserved g c = record { going = leave c.loop-z.invariant c.loop-z-test.false }

pub loop-n-preserved : goal.loop-n-preserved
loop-n-preserved g c = record { going = leave c.loop-x.invariant c.loop-x-test.false }

pub returns : goal.returns
returns g c =
    let l = g.met.D.Direction.laws c.args.d.now in
    all_done l (leave c.loop-n.invariant c.loop-n-test.false)

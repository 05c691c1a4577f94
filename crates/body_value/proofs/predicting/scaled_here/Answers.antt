-- The first value by the band before, a later one by its components.
use Rattle.std.proofs.Common.{sym, arith, w64, to_z-of_z}
use Rattle.integers.proofs.Laws.{ok}
use Rattle.body_value.proofs.Predicts.{few, held_long, us_taken, terms, first_is, later_is}
use Rattle.body_value.proofs.predicting.scaled_here.Goals as goal

pub returns-then-place-eq0 : goal.returns-then-place-eq0
returns-then-place-eq0 c =
    rw (to_z-of_z (ok w64 c.first_prediction.result c.first_prediction.type_inv)) (first_is c.requires.0 c.args.us.now c.first_prediction.result c.if-place-eq0.true c.requires.1 c.first_prediction.ensures)

pub slice_bounds-predict-end : goal.slice_bounds-predict-end
slice_bounds-predict-end c =
    rw c.component_count-n.ensures (sym (held_long c.requires.0))

pub slice_bounds-predict-end-2 : goal.slice_bounds-predict-end-2
slice_bounds-predict-end-2 c =
    let f = few c.args.p c.args.place in omega (arith, c.component_count-n.ensures, c.differences-sum.ensures.long)

pub slice_bounds-predict-end-3 : goal.slice_bounds-predict-end-3
slice_bounds-predict-end-3 c =
    rw c.component_count-n.ensures (sym (us_taken c.requires.0 _ c.differences-sum.ensures.long))

pub predict-requires : goal.predict-requires
predict-requires c =
    let sum_fits = ok w64 c.differences-sum.result c.differences-sum.type_inv in
    rw (c.component_count-n.ensures, to_z-of_z sum_fits) (terms c.requires.0 _ _ c.differences-sum.ensures.components_are c.differences-sum.ensures.sum_is)

pub returns : goal.returns
returns c =
    let sum_fits = ok w64 c.differences-sum.result c.differences-sum.type_inv in
    rw (to_z-of_z (ok w64 c.predict.result c.predict.type_inv))
    (later_is c.requires.0 _ _ _ (omega (arith, c.if-place-eq0.false)) c.differences-sum.ensures (rw (c.component_count-n.ensures, to_z-of_z sum_fits) at c.predict.ensures))

-- The exponent and the direction of the step are the definition’s; the first value steps nothing.
use Rattle.std.proofs.Common.{sym, arith, w32, to_z-of_z}
use Rattle.integers.proofs.Laws.{ok}
use Rattle.body_value.proofs.Predicts.{n_few, ws_long, us_long, schedule, stepping, unlearnt, learnt_by}
use Rattle.body_value.proofs.predicting.learn.Goals as goal

pub returns-then-place-eq0 : goal.returns-then-place-eq0
returns-then-place-eq0 c = unlearnt c.requires c.args.sample c.if-place-eq0.true

pub exponent-rho-requires : goal.exponent-rho-requires
exponent-rho-requires c = schedule c.requires

pub slice_bounds-step_weights-end : goal.slice_bounds-step_weights-end
slice_bounds-step_weights-end c =
    let f = n_few c.requires in omega (arith, c.component_count-n.ensures, c.requires.fit.long)

pub slice_bounds-step_weights-end-2 : goal.slice_bounds-step_weights-end-2
slice_bounds-step_weights-end-2 c = rw c.component_count-n.ensures (sym (ws_long c.requires))

pub slice_bounds-step_weights-end-3 : goal.slice_bounds-step_weights-end-3
slice_bounds-step_weights-end-3 c = rw c.component_count-n.ensures (sym (us_long c.requires))

pub step_weights-requires : goal.step_weights-requires
step_weights-requires c =
    let rho-fits = ok w32 c.exponent-rho.result c.exponent-rho.type_inv in
    rw (to_z-of_z rho-fits, c.component_count-n.ensures) (stepping c.requires (omega (arith, c.if-place-eq0.false)) c.exponent-rho.ensures.1)

pub returns : goal.returns
returns c =
    let rho-fits = ok w32 c.exponent-rho.result c.exponent-rho.type_inv in
    let f = c.ranges.sample in
    let g = c.ranges.scaled in
    learnt_by c.requires c.component_count-n.result c.component_count-n.ensures c.args.sample c.exponent-rho.result c.error_not_negative-up.result c.step_weights.new.ws
    (omega (arith, c.if-place-eq0.false)) c.exponent-rho.ensures.0 (simp (to_z-of_z, f, g) at c.error_not_negative-up.ensures) (simp (to_z-of_z, rho-fits) at c.step_weights.ensures)

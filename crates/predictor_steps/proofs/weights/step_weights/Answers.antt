-- `predictor_steps::weights::step_weights` meets its contract: the slots passed are stepped, and the others are as they were.
use Rattle.std.proofs.Common.{arith, to_z-of_z}
use Rattle.predictor_steps.proofs.Gains.{stepped_are}
use Rattle.predictor_steps.proofs.weights.step_weights.Goals as goal

pub returns : goal.returns
returns c =
    let a = c.args in
    let v = c.loop-i in
    stepped_are a.resolution a.rho a.up a.us.now a.ws.now v.ws c.requires.pairs.same (omega arith)
    (λ k p. rw (to_z-of_z c.ranges.rho) at v.invariant.stepped k (omega arith))

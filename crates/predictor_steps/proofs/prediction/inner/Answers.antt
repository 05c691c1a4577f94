-- `predictor_steps::prediction::inner` meets its contract: what is summed so far and the products to come are the whole sum, and each product adds at most 2^40 to its size.
use Rattle.std.proofs.Common.{sym, ◌∙◌, ◌≤◌, length, arith, drop_of_length-le, w64, to_z, to_z-of_z}
use Rattle.std.proofs.Math.IntN.{+ℤ_idr}
use Rattle.predictor.specs.Prediction.{inner}
use Rattle.predictor_steps.proofs.InnerSteps.{turn_at, step}
use Rattle.predictor_steps.proofs.prediction.inner.Goals as goal

pub overflow_add-sum : goal.overflow_add-sum
overflow_add-sum c =
    let f = turn_at c.args.ws.now c.args.us.now (to_z w64 c.loop-i.sum-bits) c.loop-i.i c.requires (omega arith) c.loop-i.invariant.small in
    simp (to_z-of_z, f.x32, f.y32, f.x64, f.y64, f.xy) f.more

pub loop-i-preserved : goal.loop-i-preserved
loop-i-preserved c =
    let i = c.loop-i.i in
    let f = turn_at c.args.ws.now c.args.us.now (to_z w64 c.loop-i.sum-bits) i c.requires (omega arith) c.loop-i.invariant.small in
    simp (to_z-of_z, f.x32, f.y32, f.x64, f.y64, f.xy, f.more)
    (record {
      small = f.bound;
      so_far =
          sym (step c.args.ws.now c.args.us.now i (to_z w64 c.loop-i.sum-bits) (omega arith) (omega arith))
          ∙ c.loop-i.invariant.so_far;
    })

pub returns : goal.returns
unfolding inner
returns c =
    let w = c.args.ws.now in
    let h : length w ≤ c.loop-i.i = omega arith in
    let e = c.loop-i.invariant.so_far in
    let d = rw (drop_of_length-le w) at e in
    sym (+ℤ_idr _) ∙ d

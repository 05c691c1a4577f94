-- `predictor_steps::prediction::predict` meets its contract: the register's value fits before it is wrapped, and the calls are the definition's parts.
use Rattle.std.proofs.Common.{◌≡◌, ◌∙◌, List, ◌^◌, ◌≤◌, ℤ, nat_abs, ◌+ℤ◌, SFits, w64, to_z-of_z}
use Rattle.integers.proofs.Laws.{zs, ok, add, abs_parts}
use Rattle.predictor.specs.Prediction.{inner, scaled_by}
use Rattle.predictor.specs.Asks.{Pairs}
use Rattle.predictor_steps.proofs.Sizes.{inner_small}
use Rattle.predictor_steps.proofs.prediction.predict.Goals as goal

-- an inner product and what the sum lies above the middles
sum_fits : {ws us : List ℤ} (d b : ℤ) → Pairs ws us → d ≡ inner ws us → nat_abs b ≤ 2 ^ 40 → SFits w64 (d +ℤ b)
sum_fits {ws} {us} d b pairs e h = omega (zs, add d b, rw (← e) at (inner_small ws us pairs), abs_parts b)

pub overflow_add-product : goal.overflow_add-product
overflow_add-product c =
    simp (to_z-of_z, ok w64 c.inner-product.result c.inner-product.type_inv, ok w64 c.offset-above.result c.offset-above.type_inv)
    (sum_fits c.inner-product.result c.offset-above.result c.requires.pairs c.inner-product.ensures c.offset-above.ensures.1)

pub returns : goal.returns
unfolding scaled_by
returns c =
    let d = c.inner-product in
    let b = c.offset-above in
    let v = c.wrap-value in
    let r = c.bounded in
    let fs = c.ranges.sum in
    let ev = simp (to_z-of_z, ok w64 d.result d.type_inv, ok w64 b.result b.type_inv, sum_fits d.result b.result c.requires.pairs d.ensures b.ensures.1) at v.ensures in
    let eb = simp (to_z-of_z, fs) at b.ensures.0 in
    let er = simp (to_z-of_z, ok w64 v.result v.type_inv) at r.ensures in
    to_z-of_z (ok w64 r.result r.type_inv) ∙ er ∙ rw (ev, eb, d.ensures)

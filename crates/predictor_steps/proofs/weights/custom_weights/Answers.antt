-- `predictor_steps::weights::custom_weights` meets its contract: the slots passed hold the weights of their table values.
use Rattle.std.proofs.Common.{◌≡◌, sym, ◌∙◌, ℕ, ◌+◌, ℤ, pos, length, get_or, arith, w32, to_z-of_z}
use Rattle.std.proofs.lemmas.List.{ext_get_or}
use Rattle.integers.specs.Laws.{ok}
use Rattle.settings.specs.Lists.{join, one}
use Rattle.settings.specs.ListLaws.{length_ones, get_or_ones}
use Rattle.predictor.specs.Weights.{custom_weight}
use Rattle.predictor.specs.Each.{done_more}
use Rattle.predictor_steps.proofs.weights.custom_weights.Goals as goal

pub loop-i-preserved : goal.loop-i-preserved
loop-i-preserved c =
    let a = c.args in
    let v = c.loop-i in
    let r = c.custom_weight in
    let f = ok w32 (get_or a.tables.now (a.from + v.i) (pos 0)) c.custom_weight-arg-1.given in
    let e : r.result ≡ custom_weight a.resolution a.precision (get_or a.tables.now (a.from + v.i) (pos 0)) =
    simp (to_z-of_z, f) at r.ensures in
    rw (to_z-of_z (ok w32 r.result r.type_inv))
    (done_more v.ws v.i r.result (λ k. custom_weight a.resolution a.precision (get_or a.tables.now (a.from + k) (pos 0))) (omega arith) v.invariant e)

pub returns : goal.returns
returns c =
    let a = c.args in
    let v = c.loop-i in
    let f : ℕ → ℤ = λ k. custom_weight a.resolution a.precision (get_or a.tables.now (a.from + k) (pos 0)) in
    let n = length a.ws.now in
    ext_get_or (pos 0) v.ws (join (λ k. one (f k)) 0 n) (omega (arith, length_ones f n))
    (λ k p. v.invariant k (omega arith) ∙ sym (get_or_ones f n k (pos 0) (omega arith)))

-- `predictor_steps::weights::put_eighths` meets its contract: the slots passed hold eighths, and the weight at hand is the next.
use Rattle.std.proofs.Common.{sym, ◌<◌, ◌^◌, length, get_or, pos, arith, w32, le_refl}
use Rattle.std.proofs.lemmas.List.{ext_get_or}
use Rattle.std.proofs.Math.Facts.{to_z_pos}
use Rattle.predictor.specs.Weights.{eighths}
use Rattle.predictor.specs.Lengths.{eighths_length}
use Rattle.predictor.specs.Each.{done_more}
use Rattle.predictor_steps.proofs.Beginnings.{eighth_first, eighth_next}
use Rattle.predictor_steps.proofs.weights.put_eighths.Goals as goal

pub loop-w-init : goal.loop-w-init
loop-w-init c = record {
  most = le_refl c.args.first;
  put = λ k p. absurd (omega arith);
  next = eighth_first (length c.args.ws.now) c.args.first;
}

pub loop-w-preserved : goal.loop-w-preserved
loop-w-preserved c =
    let v = c.loop-w in
    let n = length c.args.ws.now in
    let small : v.weight < 2 ^ 31 = omega (arith, v.invariant.most, c.requires) in
    let here = v.invariant.next (omega arith) in
    rw (to_z_pos w32 small)
    (record {
      most = omega (arith, v.invariant.most);
      put = done_more v.w-items v.w-index (pos v.weight) (λ k. get_or (eighths n (pos c.args.first)) k (pos 0)) (omega arith)
          v.invariant.put (sym here);
      next = λ p. eighth_next n (pos c.args.first) v.w-index v.weight p here;
    })

pub returns : goal.returns
returns c =
    let v = c.loop-w in
    ext_get_or (pos 0) v.w-items (eighths (length c.args.ws.now) (pos c.args.first))
    (omega (arith, eighths_length (length c.args.ws.now) (pos c.args.first))) (λ k p. v.invariant.put k (omega arith))

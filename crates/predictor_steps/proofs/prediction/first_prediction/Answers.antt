-- `predictor_steps::prediction::first_prediction` meets its contract: the sample before is there where a band predicts.
use Rattle.std.proofs.Common.{◌-◌, ◌*◌, sym, pos, get_or, rules, arith, lt-ltb, le-ltb, SFits, w32, to_z-of_z}
use Rattle.predictor.specs.Inputs.{area}
use Rattle.predictor_steps.proofs.Firsts.{before_in, first_behind, first_none, first_band}
use Rattle.predictor_steps.proofs.PredictionFits.{twice_fits}
use Rattle.predictor_steps.proofs.prediction.first_prediction.Goals as goal
use Rattle.predictor_steps.proofs.prediction.first_prediction.Goals.{else-z-gt0-via-then-z-gt0+else-s-gt0, else-z-gt0-via-else-z-gt0}

pub overflow_mul-at : goal.overflow_mul-at
overflow_mul-at c = omega (arith, before_in c.requires c.if-z-gt0.true)

pub offset_bounds-image-at : goal.offset_bounds-image-at
offset_bounds-image-at c = omega (arith, before_in c.requires c.if-z-gt0.true)

pub bounds-image-at : goal.bounds-image-at
bounds-image-at c = before_in c.requires c.if-z-gt0.true

pub returns-then-s-gt0 : goal.returns-then-s-gt0
returns-then-s-gt0 c =
    let x : let a = c.args in SFits w32 (get_or a.image.now ((a.z - 1) * area a.s) (pos 0)) = search rules in
    let f = twice_fits _ x in
    simp (to_z-of_z, f.x_32, f.x_64, f.r)
    (sym (first_behind c.requires c.if-z-gt0.true (lt-ltb _ _ (omega arith))))

pub returns : goal.returns
returns c =
    let p = c.requires in
    let f = twice_fits c.args.middle c.ranges.middle in
    simp (to_z-of_z, f.x_32, f.x_64, f.r)
    (sym
    (elim c.else-z-gt0.branch [
      | else-z-gt0-via-then-z-gt0+else-s-gt0 w ↦ first_none p (le-ltb _ _ (omega arith))
      | else-z-gt0-via-else-z-gt0 w ↦ first_band p (omega arith)
    ]))

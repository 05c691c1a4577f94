-- The boundary's statement is the cube's, behind the test of the slots' count.
use native.Mathlib.Omega.{arith}
use Rattle.refusals.specs.Refusals.{value}
use Rattle.cube_c.proofs.Boundaries.{looks_short, looks_long, looks_fit}
use Rattle.cube_c.proofs.boundary.remulingka_look.Goals as goal

pub refusal_word-requires : goal.refusal_word-requires
unfolding value
refusal_word-requires c = omega arith

pub returns-then-settings-lt-SLOTS : goal.returns-then-settings-lt-SLOTS
returns-then-settings-lt-SLOTS c = looks_short c.args.file.now c.args.settings.now c.if-settings-lt-SLOTS.true c.refusal_word.ensures

pub put_answer-requires : goal.put_answer-requires
put_answer-requires c =
    record {
      slot_count_in_bounds = c.if-settings-lt-SLOTS.false;
      storable = (looks_fit c.args.file.now c.look-answer.ensures.answer).storable;
    }

pub looked_word-requires : goal.looked_word-requires
looked_word-requires c =
    (looks_fit c.args.file.now c.look-answer.ensures.answer).value_small

pub returns : goal.returns
returns c =
    looks_long c.args.file.now c.args.settings.now
    c.if-settings-lt-SLOTS.false c.look-answer.ensures.answer c.looked_word.ensures c.put_answer.ensures

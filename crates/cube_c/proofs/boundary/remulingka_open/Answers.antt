-- The boundary's statement is the cube's, behind the test of the slots' count.
use native.Mathlib.Omega.{arith}
use Rattle.refusals.specs.Refusals.{value}
use Rattle.cube_c.proofs.Boundaries.{opens_short, opens_long, opens_fit}
use Rattle.cube_c.proofs.boundary.remulingka_open.Goals as goal

pub refusal_word-requires : goal.refusal_word-requires
unfolding value
refusal_word-requires c = omega arith

pub returns-then-settings-lt-SLOTS : goal.returns-then-settings-lt-SLOTS
returns-then-settings-lt-SLOTS c = opens_short c.args.file.now c.args.scratch.now c.args.tables.now c.args.image.now c.args.settings.now c.if-settings-lt-SLOTS.true c.refusal_word.ensures

pub put_answer-requires : goal.put_answer-requires
put_answer-requires c = record {
  slot_count_in_bounds = c.if-settings-lt-SLOTS.false;
  storable = (opens_fit _ _ _ _ c.open-answer.ensures).storable;
}

pub opened_word-requires : goal.opened_word-requires
opened_word-requires c = (opens_fit _ _ _ _ c.open-answer.ensures).value_small

pub returns : goal.returns
returns c = opens_long c.args.file.now c.args.scratch.now c.args.tables.now c.args.image.now c.args.settings.now c.if-settings-lt-SLOTS.false c.open-answer.ensures c.opened_word.ensures c.put_answer.ensures

-- Each arm is the definition's clause.
use mathlib.Core.Path.{◌∙◌, sym, ap}
use native.Mathlib.Omega.{arith}
use Rattle.cube.specs.Answers.{packed_number, packed_value}
use Rattle.cube_c.specs.Answer.{packed_word}
use Rattle.cube_c.proofs.answer.packed_word.Goals as goal

pub word-requires : goal.word-requires
unfolding packed_value
word-requires c = let e = ap packed_value c.in-Ok.is in record {
  number_bound = omega arith;
  value_lt_value_limit = omega arith;
}

pub refusal_word-requires : goal.refusal_word-requires
unfolding packed_value
refusal_word-requires c = let e = ap packed_value c.in-Err.is in omega arith

pub returns-in-Ok : goal.returns-in-Ok
unfolding packed_word packed_number packed_value
returns-in-Ok c = c.word.ensures ∙ sym (ap packed_word c.in-Ok.is)

pub returns-in-Err : goal.returns-in-Err
unfolding packed_word packed_number packed_value
returns-in-Err c = c.refusal_word.ensures ∙ sym (ap packed_word c.in-Err.is)

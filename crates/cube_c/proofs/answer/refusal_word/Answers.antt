-- A refusal has a number of at most 18, and the word is made of it and the value.
use native.Mathlib.Omega.{arith}
use Rattle.refusals.specs.RefusalLaws.{refusals_closed}
use Rattle.cube_c.proofs.answer.refusal_word.Goals as goal

pub word-requires : goal.word-requires
word-requires c = record {
  number_bound = omega (arith, c.numbered-told.ensures.number_value, (refusals_closed c.args.w).1);
  value_lt_value_limit = omega (arith, c.numbered-told.ensures.value_value);
}

pub returns : goal.returns
returns c = cc

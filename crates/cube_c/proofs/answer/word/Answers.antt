-- The sum of number · 2^56 and the value is the definition.
use mathlib.Core.Path.{refl}
use Rattle.cube_c.specs.Answer.{word_of}
use Rattle.cube_c.proofs.answer.word.Goals as goal

pub returns : goal.returns
unfolding word_of
returns c = refl

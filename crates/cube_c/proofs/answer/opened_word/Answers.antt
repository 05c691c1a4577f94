-- Success tells the number of samples, and a refusal is told as it is.
use Rattle.std.proofs.Common.{◌≡◌, sym, ap, ap₂, ◌∙◌, arith, rules, of_calls}
use Rattle.cube.specs.Answers.{opened_value}
use Rattle.cube_c.specs.Answer.{word_of, packed_word, opened_word}
use Rattle.cube_c.proofs.Told.{opened_told}
use Rattle.cube_c.proofs.answer.opened_word.Goals as goal

pub map-requires : goal.map-requires
unfolding opened_value
map-requires c = λ x e l p. let k = ap opened_value e in λ u v. omega arith

pub packed_word-requires : goal.packed_word-requires
packed_word-requires c =
    let t = opened_told c.args.r c.map.result _ c.map.ensures.cases (λ s n q. search (rules, of_calls)) in
    omega (arith, t.value)

pub returns : goal.returns
unfolding packed_word opened_word
returns c =
    let t = opened_told c.args.r c.map.result _ c.map.ensures.cases (λ s n q. search (rules, of_calls)) in
    c.packed_word.ensures ∙ ap₂ word_of t.number t.value

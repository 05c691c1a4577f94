-- Success tells 0, and a refusal is told as it is.
use Rattle.std.proofs.Common.{◌≡◌, sym, ap₂, ◌∙◌, arith, rules, of_calls}
use Rattle.cube_c.specs.Answer.{word_of, packed_word, looked_word}
use Rattle.cube_c.proofs.Told.{looked_told}
use Rattle.cube_c.proofs.answer.looked_word.Goals as goal

pub packed_word-requires : goal.packed_word-requires
packed_word-requires c =
    let t = looked_told c.args.r c.map.result _ c.map.ensures.cases (λ s n q. search (rules, of_calls)) in
    omega (arith, t.value)

pub returns : goal.returns
unfolding packed_word looked_word
returns c =
    let t = looked_told c.args.r c.map.result _ c.map.ensures.cases (λ s n q. search (rules, of_calls)) in
    c.packed_word.ensures ∙ ap₂ word_of t.number t.value

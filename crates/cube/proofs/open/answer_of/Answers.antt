-- By what the body came to and, where it was read, by the end of the file.
use Rattle.std.specs.Prelude.{Err}
use Rattle.std.proofs.Common.{ℕ, ap, subst, ◌∙◌, arith}
use Rattle.bitstream.specs.Stream.{unpack}
use Rattle.refusals.specs.declared.Refusal.TheVariants.{BodyEnds, AfterEnd}
use Rattle.settings.specs.LegalLaws.{legal_settings, count_fits}
use Rattle.cube.specs.Opening.{end_answer, Reached}
use Rattle.cube.proofs.Openings.{answered}
use Rattle.cube.proofs.open.answer_of.Goals as goal

pub sample_count-count-requires : goal.sample_count-count-requires
sample_count-count-requires c = count_fits c.args.s.image (legal_settings c.args.s c.requires.0).image

pub end_of-requires : goal.end_of-requires
end_of-requires c =
    let l = (legal_settings c.args.s c.requires.0).image in
    let r = subst (Reached (unpack c.args.file.now)) c.in_ok-end.was c.requires.2 in
    (l.word_least, l.word_most, omega (arith, r.1), r.0)

pub returns-in-Ok : goal.returns-in-Ok
unfolding end_answer
returns-in-Ok c =
    let a = c.args in
    answered a.s (unpack a.file.now) a.body _ c.end_of.result _ c.in_ok-end.was c.end_of.ensures c.in-Ok.is

pub returns-in-Err-TooShort : goal.returns-in-Err-TooShort
unfolding end_answer
returns-in-Err-TooShort c =
    let a = c.args in
    ap (λ (n : ℕ). Err (BodyEnds n)) c.sample_count-count.ensures ∙ answered a.s (unpack a.file.now) a.body _ c.end_of.result _ c.in_ok-end.was c.end_of.ensures (c.in-Err-TooShort.is ∙ ap Err c.in-Err-TooShort.field-0-is)

pub returns-in-Err-Behind : goal.returns-in-Err-Behind
unfolding end_answer
returns-in-Err-Behind c =
    let a = c.args in
    ap (λ (n : ℕ). Err (AfterEnd n)) c.sample_count-count.ensures ∙ answered a.s (unpack a.file.now) a.body _ c.end_of.result _ c.in_ok-end.was c.end_of.ensures (c.in-Err-Behind.is ∙ ap Err c.in-Err-Behind.field-0-is)

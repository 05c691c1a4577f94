-- Each branch is taken where the definition's test fails, and each test that passed is known to the next.
use mathlib.Core.Bool.{not, ◌&&◌}
use mathlib.Core.List.{[]}
use mathlib.Core.Path.{◌≡◌, refl, sym, ap, ◌∙◌}
use native.Mathlib.Omega.{arith}
use lib.Dec.{ltb}
use lib.ListN.{length, drop}
use borrow.Author.Tests.{ltb-false}
use Rattle.bitstream.specs.Stream.{unpack}
use Rattle.header_reader.proofs.Answering.{PartSeen, missing, absent, illegal, legal_part, predictor_part}
use Rattle.header_reader.specs.Answers.{predictor_read}
use Rattle.header.specs.FieldLaws.{split_lt, total}
use Rattle.header.specs.Plain.{fitting}
use Rattle.header.specs.Places.{weight_resolution, exponent_interval, initial_exponent, final_exponent}
use Rattle.header.specs.Parts.{predictor_widths, image_bits, predictor_bits}
use Rattle.header.specs.Read.{read_predictor}
use Rattle.refusals.specs.declared.Refusal.TheVariants.{EndsInHeader}
use Rattle.refusals.specs.Reading.{refused}
use Rattle.header_reader.proofs.read.read_predictor.Goals as goal

pub returns-then-ends_before : goal.returns-then-ends_before
unfolding read_predictor
returns-then-ends_before c =
    let ends : ltb (length (drop image_bits (unpack c.args.file.now))) predictor_bits ≡ c.ends_before.result =
    missing (unpack c.args.file.now) image_bits predictor_bits (λ _. omega arith) ∙ sym c.ends_before.ensures in
    let read-absent : read_predictor c.args.image (drop image_bits (unpack c.args.file.now)) ≡ refused EndsInHeader =
    absent predictor_bits (drop image_bits (unpack c.args.file.now)) _ (ends ∙ c.if-ends_before.true) in
    sym (ap predictor_read read-absent)

pub numbers_of-v-requires : goal.numbers_of-v-requires
unfolding fitting total
numbers_of-v-requires c = (omega arith, (refl, omega arith, omega arith, ltb-false _ _ (sym c.ends_before.ensures ∙ c.if-ends_before.false)))

pub predictor_of-predictor-requires : goal.predictor_of-predictor-requires
predictor_of-predictor-requires c = rw c.numbers_of-v.ensures
    (let lt = split_lt predictor_widths (drop image_bits (unpack c.args.file.now)) in (lt weight_resolution, lt exponent_interval, lt initial_exponent, lt final_exponent))

pub returns-then-not-predictor_legal-predictor_plain : goal.returns-then-not-predictor_legal-predictor_plain
returns-then-not-predictor_legal-predictor_plain c =
    let ends : ltb (length (drop image_bits (unpack c.args.file.now))) predictor_bits ≡ c.ends_before.result =
    missing (unpack c.args.file.now) image_bits predictor_bits (λ _. omega arith) ∙ sym c.ends_before.ensures in
    let seen : let a = c.args in let l = drop image_bits (unpack a.file.now) in
    PartSeen (read_predictor a.image l) predictor_bits (c.predictor_legal.result && c.predictor_plain.result) [] c.predictor_of-predictor.result l =
    predictor_part _ _ c.numbers_of-v.result _ _ _ (ends ∙ c.if-ends_before.false)
    c.numbers_of-v.ensures c.predictor_of-predictor.ensures c.predictor_legal.ensures c.predictor_plain.ensures in
    sym (ap predictor_read (illegal seen (ap not c.if-not-predictor_legal-predictor_plain.true)))

pub returns : goal.returns
returns c =
    let ends : ltb (length (drop image_bits (unpack c.args.file.now))) predictor_bits ≡ c.ends_before.result =
    missing (unpack c.args.file.now) image_bits predictor_bits (λ _. omega arith) ∙ sym c.ends_before.ensures in
    let seen : let a = c.args in let l = drop image_bits (unpack a.file.now) in
    PartSeen (read_predictor a.image l) predictor_bits (c.predictor_legal.result && c.predictor_plain.result) [] c.predictor_of-predictor.result l =
    predictor_part _ _ c.numbers_of-v.result _ _ _ (ends ∙ c.if-ends_before.false)
    c.numbers_of-v.ensures c.predictor_of-predictor.ensures c.predictor_legal.ensures c.predictor_plain.ensures in
    sym (ap predictor_read (legal_part seen (ap not c.if-not-predictor_legal-predictor_plain.false)))

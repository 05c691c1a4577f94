-- Each branch is taken where the definition's test fails, and each test that passed is known to the next.
use mathlib.Core.Bool.{not}
use mathlib.Core.List.{[]}
use mathlib.Core.Path.{◌≡◌, refl, sym, ap, ◌∙◌}
use native.Mathlib.Omega.{arith}
use lib.Dec.{ltb}
use lib.ListN.{length, drop}
use borrow.Author.Tests.{ltb-false}
use Rattle.bitstream.specs.Stream.{unpack}
use Rattle.header_reader.proofs.Answering.{PartSeen, missing, absent, illegal, legal_part, coder_part}
use Rattle.header_reader.specs.Answers.{coder_read}
use Rattle.header.specs.FieldLaws.{split_lt, total}
use Rattle.header.specs.Plain.{fitting}
use Rattle.header.specs.Places.{rescaling_size}
use Rattle.header.specs.Parts.{coder_widths, coder_bits}
use Rattle.header.specs.Read.{read_coder}
use Rattle.refusals.specs.declared.Refusal.TheVariants.{EndsInHeader}
use Rattle.refusals.specs.Reading.{refused}
use Rattle.header_reader.proofs.read.read_coder.Goals as goal

pub returns-then-ends_before : goal.returns-then-ends_before
unfolding read_coder
returns-then-ends_before c =
    let ends : ltb (length (drop c.args.bits.at (unpack c.args.bits.file.now))) coder_bits ≡ c.ends_before.result =
    missing (unpack c.args.bits.file.now) c.args.bits.at coder_bits (λ _. omega arith) ∙ sym c.ends_before.ensures in
    let read-absent : read_coder c.args.image (drop c.args.bits.at (unpack c.args.bits.file.now)) ≡ refused EndsInHeader =
    absent coder_bits (drop c.args.bits.at (unpack c.args.bits.file.now)) _ (ends ∙ c.if-ends_before.true) in
    sym (ap coder_read read-absent)

pub numbers_of-v-requires : goal.numbers_of-v-requires
unfolding fitting total
numbers_of-v-requires c = (omega arith, (refl, c.requires, omega arith, ltb-false _ _ (sym c.ends_before.ensures ∙ c.if-ends_before.false)))

pub coder_of-coder-requires : goal.coder_of-coder-requires
coder_of-coder-requires c = rw c.numbers_of-v.ensures (split_lt coder_widths (drop c.args.bits.at (unpack c.args.bits.file.now)) rescaling_size)

pub returns-then-not-coder_legal : goal.returns-then-not-coder_legal
returns-then-not-coder_legal c =
    let ends : ltb (length (drop c.args.bits.at (unpack c.args.bits.file.now))) coder_bits ≡ c.ends_before.result =
    missing (unpack c.args.bits.file.now) c.args.bits.at coder_bits (λ _. omega arith) ∙ sym c.ends_before.ensures in
    let seen : let a = c.args in let l = drop a.bits.at (unpack a.bits.file.now) in
    PartSeen (read_coder a.image l) coder_bits c.coder_legal.result [] c.coder_of-coder.result l =
    coder_part _ _ c.numbers_of-v.result _ _ (ends ∙ c.if-ends_before.false)
    c.numbers_of-v.ensures c.coder_of-coder.ensures c.coder_legal.ensures in
    sym (ap coder_read (illegal seen (ap not c.if-not-coder_legal.true)))

pub returns : goal.returns
returns c =
    let ends : ltb (length (drop c.args.bits.at (unpack c.args.bits.file.now))) coder_bits ≡ c.ends_before.result =
    missing (unpack c.args.bits.file.now) c.args.bits.at coder_bits (λ _. omega arith) ∙ sym c.ends_before.ensures in
    let seen : let a = c.args in let l = drop a.bits.at (unpack a.bits.file.now) in
    PartSeen (read_coder a.image l) coder_bits c.coder_legal.result [] c.coder_of-coder.result l =
    coder_part _ _ c.numbers_of-v.result _ _ (ends ∙ c.if-ends_before.false)
    c.numbers_of-v.ensures c.coder_of-coder.ensures c.coder_legal.ensures in
    sym (ap coder_read (legal_part seen (ap not c.if-not-coder_legal.false)))

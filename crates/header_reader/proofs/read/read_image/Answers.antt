-- Each branch is taken where the definition's test fails, and each test that passed is known to the next.
use mathlib.Core.Bool.{false, not, ◌&&◌}
use mathlib.Core.List.{[], ◌∷◌}
use mathlib.Core.Path.{◌≡◌, refl, sym, ap, ◌∙◌}
use native.Mathlib.Omega.{arith}
use lib.Dec.{ltb, eqb}
use lib.ListN.{length}
use borrow.Author.Tests.{ltb-false}
use Rattle.bitstream.specs.Stream.{unpack}
use Rattle.header_reader.proofs.Answering.{PartSeen, absent, illegal, block_coder, past_limit, whole_image, image_part}
use Rattle.header_reader.specs.Answers.{image_read}
use Rattle.header.specs.FieldLaws.{split_lt, total}
use Rattle.header.specs.Plain.{fitting}
use Rattle.header.specs.Places.{◌‼◌, user_data, coder_type}
use Rattle.header.specs.Parts.{image_widths, image_bits}
use Rattle.header.specs.Read.{read_image}
use Rattle.refusals.specs.declared.Refusal.TheVariants.{EndsInHeader, HouseLimit, BlockCoder}
use Rattle.refusals.specs.Tests.{◌⇒◌}
use Rattle.refusals.specs.Reading.{refused}
use Rattle.settings.specs.Legal.{limited}
use Rattle.header_reader.proofs.read.read_image.Goals as goal

pub returns-then-ends_before : goal.returns-then-ends_before
unfolding read_image
returns-then-ends_before c =
    let read-absent : read_image (unpack c.args.file.now) ≡ refused EndsInHeader =
    absent image_bits (unpack c.args.file.now) _ (sym c.ends_before.ensures ∙ c.if-ends_before.true) in
    sym (ap image_read read-absent)

pub numbers_of-v-requires : goal.numbers_of-v-requires
unfolding fitting total
numbers_of-v-requires c = (omega arith, (refl, omega arith, omega arith, ltb-false _ _ (sym c.ends_before.ensures ∙ c.if-ends_before.false)))

pub image_of-image-requires : goal.image_of-image-requires
image_of-image-requires c = rw c.numbers_of-v.ensures (split_lt image_widths (unpack c.args.file.now) user_data)

pub returns-then-not-image_legal-image_plain : goal.returns-then-not-image_legal-image_plain
returns-then-not-image_legal-image_plain c =
    let there : ltb (length (unpack c.args.file.now)) image_bits ≡ false =
    sym c.ends_before.ensures ∙ c.if-ends_before.false in
    let seen : let l = unpack c.args.file.now in let v = c.numbers_of-v.result in let I = c.image_of-image.result in
    PartSeen (read_image l) image_bits (c.image_legal.result && c.image_plain.result) (eqb (v ‼ coder_type) 1 ⇒ BlockCoder ∷ not (limited I) ⇒ HouseLimit ∷ []) I l =
    image_part _ c.numbers_of-v.result _ _ _ there c.numbers_of-v.ensures c.image_of-image.ensures c.image_legal.ensures c.image_plain.ensures in
    sym (ap image_read (illegal seen (ap not c.if-not-image_legal-image_plain.true)))

pub returns-then-v-eq1 : goal.returns-then-v-eq1
returns-then-v-eq1 c =
    let there : ltb (length (unpack c.args.file.now)) image_bits ≡ false =
    sym c.ends_before.ensures ∙ c.if-ends_before.false in
    let seen : let l = unpack c.args.file.now in let v = c.numbers_of-v.result in let I = c.image_of-image.result in
    PartSeen (read_image l) image_bits (c.image_legal.result && c.image_plain.result) (eqb (v ‼ coder_type) 1 ⇒ BlockCoder ∷ not (limited I) ⇒ HouseLimit ∷ []) I l =
    image_part _ c.numbers_of-v.result _ _ _ there c.numbers_of-v.ensures c.image_of-image.ensures c.image_legal.ensures c.image_plain.ensures in
    sym (ap image_read (block_coder seen (ap not c.if-not-image_legal-image_plain.false) c.if-v-eq1.true))

pub returns-then-not-limited : goal.returns-then-not-limited
returns-then-not-limited c =
    let there : ltb (length (unpack c.args.file.now)) image_bits ≡ false =
    sym c.ends_before.ensures ∙ c.if-ends_before.false in
    let seen : let l = unpack c.args.file.now in let v = c.numbers_of-v.result in let I = c.image_of-image.result in
    PartSeen (read_image l) image_bits (c.image_legal.result && c.image_plain.result) (eqb (v ‼ coder_type) 1 ⇒ BlockCoder ∷ not (limited I) ⇒ HouseLimit ∷ []) I l =
    image_part _ c.numbers_of-v.result _ _ _ there c.numbers_of-v.ensures c.image_of-image.ensures c.image_legal.ensures c.image_plain.ensures in
    sym (ap image_read (past_limit seen (ap not c.if-not-image_legal-image_plain.false) c.limited.result c.limited.ensures c.if-v-eq1.false (ap not c.if-not-limited.true)))

pub returns : goal.returns
returns c =
    let there : ltb (length (unpack c.args.file.now)) image_bits ≡ false =
    sym c.ends_before.ensures ∙ c.if-ends_before.false in
    let seen : let l = unpack c.args.file.now in let v = c.numbers_of-v.result in let I = c.image_of-image.result in
    PartSeen (read_image l) image_bits (c.image_legal.result && c.image_plain.result) (eqb (v ‼ coder_type) 1 ⇒ BlockCoder ∷ not (limited I) ⇒ HouseLimit ∷ []) I l =
    image_part _ c.numbers_of-v.result _ _ _ there c.numbers_of-v.ensures c.image_of-image.ensures c.image_legal.ensures c.image_plain.ensures in
    sym (ap image_read (whole_image seen (ap not c.if-not-image_legal-image_plain.false) c.limited.result c.limited.ensures c.if-v-eq1.false (ap not c.if-not-limited.false)))

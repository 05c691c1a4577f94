-- The fields put are those of the definition.
use Rattle.std.proofs.Common.{refl, ◌∙◌, arith}
use Rattle.header.specs.Parts.{image_fields}
use Rattle.header.specs.Plain.{fitting}
use Rattle.header.specs.Writing.{fields_of}
use Rattle.header.proofs.WriteLaws.{from_flag}
use Rattle.header.proofs.write.write_image.Goals as goal

pub put_fields-requires : goal.put_fields-requires
unfolding fitting
put_fields-requires c = (refl, refl, omega arith, c.requires)

pub returns : goal.returns
unfolding image_fields fields_of
returns c = rw (c.from.ensures, c.from-signed.ensures ∙ from_flag _, c.from-sequential.ensures ∙ from_flag _, c.chosen-interleave.ensures) at c.put_fields.ensures

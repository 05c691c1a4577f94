-- The fields put are those of the definition.
use Rattle.std.proofs.Common.{refl, ◌∙◌, arith}
use Rattle.header.specs.Parts.{coder_fields}
use Rattle.header.specs.Plain.{fitting}
use Rattle.header.specs.Writing.{fields_of}
use Rattle.header.proofs.WriteLaws.{from_flag}
use Rattle.settings.specs.LegalLaws.{legal_coder}
use Rattle.header.proofs.write.write_coder.Goals as goal

pub overflow_sub-c : goal.overflow_sub-c
overflow_sub-c c = (legal_coder _ _ c.requires.0).rescaling_least

pub put_fields-requires : goal.put_fields-requires
unfolding fitting
put_fields-requires c = (refl, refl, omega arith, c.requires.1)

pub returns : goal.returns
unfolding coder_fields fields_of
returns c = rw (c.chosen-constant.ensures, c.from-in_file.ensures ∙ from_flag _) at c.put_fields.ensures

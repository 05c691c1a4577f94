-- A field that is in the file is found.
use Rattle.std.proofs.Common.{sym, ◌∙◌}
use Rattle.bitstream.specs.Stream.{unpack}
use Rattle.header.proofs.Numbers.{found_number, found_no_less}
use Rattle.header.proofs.fields.number_at.Goals as goal

pub returns-in-Ok : goal.returns-in-Ok
returns-in-Ok c = found_number (unpack c.args.bits.file.now) c.args.bits.at c.args.width c.in-Ok.value c.in-Ok.field-0-1 c.requires.3 (sym c.get.ensures ∙ c.in-Ok.is)

pub returns-in-Err : goal.returns-in-Err
returns-in-Err c = found_no_less (unpack c.args.bits.file.now) c.args.bits.at c.args.width c.in-Err.field-0 c.requires.3 (sym c.get.ensures ∙ c.in-Err.is)

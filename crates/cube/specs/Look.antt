-- What the look answers for any bytes: the settings of the header alone.
use Rattle.std.specs.Prelude.{List, ℕ, Result, Ok, Err}
use Rattle.bitstream.specs.Stream.{unpack}
use Rattle.settings.specs.declared.Settings.{Settings}
use Rattle.refusals.specs.Reading.{Read, got, refused}
use Rattle.refusals.specs.declared.Refusal.{Refusal}
use Rattle.header.specs.Read.{Header, read_header}

-- the answer to a header that is read
unfoldable pub look_answer : Read Header → Result Settings Refusal
look_answer (got h r) = Ok h.settings
look_answer (refused w) = Err w

-- the settings, or the refusal of the header
unfoldable pub looked : List ℕ → Result Settings Refusal
looked bytes = look_answer (read_header (unpack bytes))

-- One header worked by hand from tables 5-1 to 5-3, with another number in every field; the laws alone would let two fields of one width change places.
use Rattle.std.specs.Prelude.{◌≡◌, refl, true, false, List, [], ◌∷◌, ◌++◌, ℤ, pos, negsuc, replicate}
use Rattle.bitstream.specs.Stream.{bits, odd, number, first_bytes, pack, filled}
use Rattle.settings.specs.declared.Settings.{Settings}
use Rattle.settings.specs.Lists.{join}
use Rattle.settings.specs.Tables.{entry, backward, component_count}
use Rattle.header.specs.Fields.{fields}
use Rattle.header.specs.Parts.{image_fields, exponent_of, predictor_fields, coder_fields}
use Rattle.header.specs.Tables.{twos, weight_table, accumulator_table}
use Rattle.header.specs.Write.{weight_part, accumulator_part, header}

-- signed samples of 12 bits, 3 × 5 × 2 in sub-frames of two bands, with custom weights and a table of k'
abbrev settings : Settings
settings = record {
  image = record { user = 77; nx = 3; ny = 5; nz = 2; signed = true; depth = 12; sequential = false; interleave = 2; word = 3 };
  predictor = record { bands = 1; reduced = true; column = false; register = 40; resolution = 6; interval = 64; vmin = negsuc 1; vmax = pos 5; custom = true; precision = 4; weights_in_file = true };
  coder = record { unary = 9; rescaling = 5; initial = 2; tabled = true; constant = 0; k_in_file = true };
}

-- k' = 2 and no weight in the first band; the weight −3 and k' = 5 in the second
abbrev tables : List ℤ
tables = replicate 18 (pos 0) ++ pos 2 ∷ negsuc 2 ∷ (replicate 17 (pos 0) ++ pos 5 ∷ [])

-- twelve bytes, five and a table of one, two and a table of one
pub record Worked : Type 0 where
  bytes : pack (header settings tables)
      ≡ 0x4D ∷ 0x00 ∷ 0x03 ∷ 0x00 ∷ 0x05 ∷ 0x00 ∷ 0x02 ∷ 0x98 ∷ 0x00 ∷ 0x02 ∷ 0x18 ∷ 0x00 ∷ 0x06 ∷ 0x28 ∷ 0x22 ∷ 0x4B
      ∷ 0x64 ∷ 0xD0 ∷ 0x49 ∷ 0x5F ∷ 0x25 ∷ []

pub worked : Worked
unfolding bits odd number first_bytes pack filled join entry backward component_count fields image_fields exponent_of predictor_fields coder_fields twos weight_table accumulator_table weight_part accumulator_part header
worked = record { bytes = refl }

-- Small files by computation, their bytes the independent program's: 3 × 3 × 2 samples in each order, with custom weights and a table of k',
-- and 2 × 1 × 3 samples in sub-frames of two bands and of one, with every field that is encoded as 0.
use Rattle.std.specs.Prelude.{◌≡◌, refl, Bool, true, false, List, [], ◌∷◌, ℕ, ℤ, pos, negsuc}
use Rattle.integers.specs.Integer.{floor_mod, clip, wrap, is_even}
use Rattle.bitstream.specs.Stream.{odd, bits, number, first_bytes, pack, filled, field}
use Rattle.settings.specs.declared.Settings.{Settings}
use Rattle.settings.specs.Lists.{join, sum_below}
use Rattle.settings.specs.Legal.{sample_count}
use Rattle.settings.specs.Range.{lowest, highest, middle}
use Rattle.settings.specs.Tables.{entry, backward, component_count}
use Rattle.predictor.specs.LocalSum.{neighbours_at, position_at, local_sum, sum_at}
use Rattle.predictor.specs.Differences.{image_of, directional, central_at, centrals_at, directional_at, components_at}
use Rattle.predictor.specs.Weights.{eighths, default_weights, custom_weight, initial_weights}
use Rattle.predictor.specs.Prediction.{inner, scaled_by, scaled_prediction, first_prediction}
use Rattle.predictor.specs.WeightUpdate.{exponent_by, exponent, gain, weight_step, stepped_weights, next_weights}
use Rattle.predictor.specs.Mapping.{theta, map_residual, mapped_by, mapped}
use Rattle.predictor.specs.Band.{scaled_with, weights_behind, weights_at, scaled_at, mapped_at}
use Rattle.coder.specs.Codeword.{codeword, run, parse}
use Rattle.coder.specs.Statistics.{initial_parameter, initial_accumulator, initial_statistics, next_statistics, largest, parameter, statistics_behind, statistics_at}
use Rattle.coder.specs.Encoding.{encode, encode_at}
use Rattle.header.specs.Fields.{fields}
use Rattle.header.specs.Parts.{image_fields, exponent_of, predictor_fields, coder_fields}
use Rattle.header.specs.Tables.{twos, weight_table, accumulator_table}
use Rattle.header.specs.Write.{weight_part, accumulator_part, header}
use Rattle.body.specs.Order.{column_of, row_of, band_sequential, sub_frames, frame_of, band_interleaved, order}
use Rattle.body.specs.Body.{code, codes, body}
use Rattle.cube.specs.File.{file_bits, file}

-- signed samples of 12 bits, 3 × 3 × 2, in either order
abbrev settings : Bool → ℕ → Settings
settings sequential depth = record {
  image = record { user = 77; nx = 3; ny = 3; nz = 2; signed = true; depth = 12; sequential = sequential; interleave = depth; word = 3 };
  predictor = record { bands = 1; reduced = false; column = false; register = 40; resolution = 6; interval = 16; vmin = negsuc 1; vmax = pos 5; custom = true; precision = 4; weights_in_file = true };
  coder = record { unary = 9; rescaling = 5; initial = 2; tabled = true; constant = 0; k_in_file = true };
}

-- weights of four bits and a k' for each band
abbrev tables : List ℤ
tables =
    pos 1 ∷ negsuc 1 ∷ pos 3 ∷ pos 0 ∷ pos 0 ∷ pos 0 ∷ pos 0 ∷ pos 0 ∷ pos 0 ∷ pos 0 ∷ pos 0 ∷ pos 0 ∷ pos 0 ∷ pos 0 ∷ pos 0 ∷ pos 0 ∷ pos 0 ∷ pos 0 ∷ pos 2
    ∷ negsuc 3 ∷ pos 3 ∷ pos 0 ∷ pos 2 ∷ pos 0 ∷ pos 0 ∷ pos 0 ∷ pos 0 ∷ pos 0 ∷ pos 0 ∷ pos 0 ∷ pos 0 ∷ pos 0 ∷ pos 0 ∷ pos 0 ∷ pos 0 ∷ pos 0 ∷ pos 0 ∷ pos 5 ∷ []

-- both ends of the range, and values between
abbrev samples : List ℤ
samples =
    negsuc 2047 ∷ pos 2047 ∷ pos 5 ∷ pos 17 ∷ negsuc 299 ∷ pos 301 ∷ pos 40 ∷ pos 41 ∷ negsuc 41
    ∷ pos 100 ∷ negsuc 99 ∷ pos 99 ∷ pos 2047 ∷ negsuc 2047 ∷ pos 0 ∷ pos 7 ∷ pos 9 ∷ negsuc 10 ∷ []

-- two sub-frames a row, and D = 16, R = 64, Umax = 32, γ0 = 8, B = 8, which their fields hold modulo 16, 64, 32 and 8
abbrev wrapping : Settings
wrapping = record {
  image = record { user = 0; nx = 2; ny = 1; nz = 3; signed = false; depth = 16; sequential = false; interleave = 2; word = 8 };
  predictor = record { bands = 2; reduced = false; column = false; register = 64; resolution = 13; interval = 64; vmin = negsuc 0; vmax = pos 3; custom = false; precision = 0; weights_in_file = false };
  coder = record { unary = 32; rescaling = 9; initial = 8; tabled = false; constant = 9; k_in_file = false };
}

-- the files, byte by byte
pub record Small : Type 0 where
  sequential : file (settings true 0) tables samples
      ≡ 0x4D ∷ 0x00 ∷ 0x03 ∷ 0x00 ∷ 0x03 ∷ 0x00 ∷ 0x02 ∷ 0x99 ∷ 0x00 ∷ 0x00 ∷ 0x18 ∷ 0x00 ∷ 0x04 ∷ 0x28 ∷ 0x20 ∷ 0x4B
      ∷ 0x64 ∷ 0x1E ∷ 0x3C ∷ 0x30 ∷ 0x20 ∷ 0x49 ∷ 0x5F ∷ 0x25 ∷ 0xFF ∷ 0xF0 ∷ 0x07 ∷ 0xFF ∷ 0x8F ∷ 0xE8 ∷ 0x82 ∷ 0x2D
      ∷ 0xA8 ∷ 0x52 ∷ 0xD7 ∷ 0x97 ∷ 0xAD ∷ 0x3C ∷ 0xD6 ∷ 0x19 ∷ 0x00 ∷ 0x10 ∷ 0xC6 ∷ 0x03 ∷ 0x38 ∷ 0x03 ∷ 0xD5 ∷ 0x1F
      ∷ 0xFD ∷ 0xFF ∷ 0xDF ∷ 0xE1 ∷ 0xFD ∷ 0x88 ∷ 0x14 ∷ 0x00 ∷ 0x00 ∷ []
  interleaved : file (settings false 2) tables samples
      ≡ 0x4D ∷ 0x00 ∷ 0x03 ∷ 0x00 ∷ 0x03 ∷ 0x00 ∷ 0x02 ∷ 0x98 ∷ 0x00 ∷ 0x02 ∷ 0x18 ∷ 0x00 ∷ 0x04 ∷ 0x28 ∷ 0x20 ∷ 0x4B
      ∷ 0x64 ∷ 0x1E ∷ 0x3C ∷ 0x30 ∷ 0x20 ∷ 0x49 ∷ 0x5F ∷ 0x25 ∷ 0xFF ∷ 0xF8 ∷ 0x64 ∷ 0x00 ∷ 0x7F ∷ 0xF8 ∷ 0x02 ∷ 0x18
      ∷ 0xC7 ∷ 0xF4 ∷ 0x03 ∷ 0x38 ∷ 0x41 ∷ 0x10 ∷ 0x1E ∷ 0xAB ∷ 0x6A ∷ 0x0F ∷ 0xFE ∷ 0x52 ∷ 0xD7 ∷ 0xFF ∷ 0x79 ∷ 0x77
      ∷ 0xF8 ∷ 0xAD ∷ 0x2F ∷ 0xED ∷ 0xCD ∷ 0x48 ∷ 0x14 ∷ 0x00 ∷ 0x00 ∷ []
  sub_frames_lem : file wrapping [] (pos 1000 ∷ pos 1017 ∷ pos 1300 ∷ pos 1290 ∷ pos 40000 ∷ pos 39000 ∷ [])
      ≡ 0x00 ∷ 0x00 ∷ 0x02 ∷ 0x00 ∷ 0x01 ∷ 0x00 ∷ 0x03 ∷ 0x00 ∷ 0x00 ∷ 0x02 ∷ 0x00 ∷ 0x00 ∷ 0x08 ∷ 0x00 ∷ 0x92 ∷ 0x59
      ∷ 0x00 ∷ 0x05 ∷ 0x12 ∷ 0xF8 ∷ 0x2F ∷ 0x02 ∷ 0x58 ∷ 0x88 ∷ 0x63 ∷ 0x19 ∷ 0xC4 ∷ 0x01 ∷ 0xE1 ∷ 0x00 ∷ 0x00 ∷ 0x00 ∷ []

pub small : Small
unfolding floor_mod clip wrap is_even bits odd number first_bytes pack filled field codeword run parse join sum_below entry backward component_count lowest highest middle sample_count neighbours_at position_at local_sum sum_at directional central_at centrals_at directional_at components_at eighths default_weights custom_weight initial_weights inner scaled_by scaled_prediction first_prediction exponent_by exponent gain weight_step stepped_weights next_weights theta map_residual mapped_by mapped scaled_with weights_behind weights_at scaled_at mapped_at initial_parameter initial_accumulator initial_statistics next_statistics largest parameter statistics_behind statistics_at encode encode_at fields image_fields exponent_of predictor_fields coder_fields twos weight_table accumulator_table weight_part accumulator_part header column_of row_of band_sequential sub_frames frame_of band_interleaved order image_of code codes body file_bits file
small = record { sequential = refl; interleaved = refl; sub_frames_lem = refl }

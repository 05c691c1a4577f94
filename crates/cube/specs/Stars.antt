-- Document 01's starred numbers, one table, checked together against the definitions by one computed test.
use Rattle.std.specs.Prelude.{◌≡◌, refl, Bool, true, false, List, [], ◌∷◌, ◌++◌, map, ℕ, ◌-◌, ◌^◌, ℤ, pos, negsuc, neg_ℤ, ◌-ℤ◌, replicate, Result, Ok, Err}
use Rattle.integers.specs.Integer.{floor_mod, clip, wrap, is_even}
use Rattle.bitstream.specs.Stream.{odd, bits, number, unpack, first_bytes, pack, zeros, filled, field, bad}
use Rattle.settings.specs.declared.Settings.{Settings}
use Rattle.settings.specs.Lists.{join, one, sum_below}
use Rattle.settings.specs.Legal.{image_legal, interval_legal, predictor_legal, coder_legal, settings_legal, limited, sample_count}
use Rattle.settings.specs.Range.{lowest, highest, middle, in_range, first_out}
use Rattle.settings.specs.Tables.{entry, backward, component_count, every, weight_legal, accumulator_legal, band_legal, tables_legal}
use Rattle.refusals.specs.declared.Refusal.{Refusal}
use Rattle.refusals.specs.declared.Refusal.TheVariants.{IllegalSetting, SampleOutOfRange, WrongCount, HouseLimit, ShortArea, NoRoom, EndsInHeader, IllegalField, BodyEnds, BadCodeword, AfterEnd, BlockCoder, UnfitFile, RowOutOfTurn, SecondNotRising, NoTablesLent, BadCalibration, NoSerialLeft}
use Rattle.refusals.specs.Refusals as refusals
use Rattle.refusals.specs.Tests.{first_hit}
use Rattle.settings.specs.Checks.{areas_short, check_pack}
use Rattle.refusals.specs.Reading.{Read, got, refused}
use Rattle.predictor.specs.LocalSum.{neighbours_at, position_at, local_sum, sum_at}
use Rattle.predictor.specs.Differences.{image_of, directional, central_at, centrals_at, directional_at, components_at}
use Rattle.predictor.specs.Weights.{lowest_weight, highest_weight, eighths, default_weights, custom_weight, initial_weights}
use Rattle.predictor.specs.Prediction.{inner, scaled_by, scaled_prediction, first_prediction}
use Rattle.predictor.specs.WeightUpdate.{exponent_by, exponent, gain, weight_step, stepped_weights, next_weights}
use Rattle.predictor.specs.Mapping.{theta, map_residual, unmap_residual, mapped_by, unmapped_by, mapped, unmapped}
use Rattle.predictor.specs.Band.{scaled_with, weights_behind, weights_at, scaled_at, mapped_at}
use Rattle.coder.specs.Codeword.{codeword, run, parse}
use Rattle.coder.specs.declared.Statistics.{Statistics}
use Rattle.coder.specs.Statistics.{initial_parameter, initial_accumulator, initial_statistics, next_statistics, largest, parameter, statistics_behind, statistics_at}
use Rattle.coder.specs.Encoding.{encode, decode, encode_at}
use Rattle.header.specs.Fields.{fields, split, same}
use Rattle.header.specs.Parts.{image_fields, exponent_of, predictor_fields, predictor_of, coder_fields, coder_of}
use Rattle.header.specs.Parts as parts
use Rattle.header.specs.Tables.{twos, signed_of, weight_table, accumulator_table, components_before, number_at, used, slots, tables_of}
use Rattle.header.specs.Read.{read_image, read_predictor, read_coder, read_table, read_weights, read_accumulators, read_header}
use Rattle.header.specs.Write.{weight_part, accumulator_part, header}
use Rattle.body.specs.Order.{column_of, row_of, band_sequential, sub_frames, frame_of, band_interleaved, order}
use Rattle.body.specs.Body.{code, codes, body, mapped_off, restored, read_body}
use Rattle.cube.specs.File.{file_bits, file, length_answer, packed}
use Rattle.cube.specs.Open.{Cube, at_end, behind_header, opened_bits, opened}

-- one row of Nx columns in Nz bands of D bits, reduced and by columns, with R = 32, Ω = 4, tinc = 16, vmax = 3, Umax = 8 and γ0 = 1
abbrev row_of_bands : (nx nz depth word : ℕ) (sequential : Bool) (interleave : ℕ) (vmin : ℤ) (rescaling constant : ℕ) → Settings
row_of_bands nx nz depth word sequential interleave vmin rescaling constant = record {
  image = record { user = 0; nx = nx; ny = 1; nz = nz; signed = false; depth = depth; sequential = sequential; interleave = interleave; word = word };
  predictor = record { bands = 0; reduced = true; column = true; register = 32; resolution = 4; interval = 16; vmin = vmin; vmax = pos 3; custom = false; precision = 0; weights_in_file = false };
  coder = record { unary = 8; rescaling = rescaling; initial = 1; tabled = false; constant = constant; k_in_file = false };
}

-- the settings of the worked files: Nx columns, D bits, words of B bytes
abbrev worked : ℕ → ℕ → ℕ → Settings
worked x d w = row_of_bands x 1 d w true 0 (negsuc 0) 4 0

-- the file of one sample, 130
abbrev one_sample : List ℕ
one_sample =
    0x00 ∷ 0x00 ∷ 0x01 ∷ 0x00 ∷ 0x01 ∷ 0x00 ∷ 0x01 ∷ 0x11 ∷ 0x00 ∷ 0x00 ∷ 0x08 ∷ 0x00 ∷ 0x02 ∷ 0xA0 ∷ 0x00 ∷ 0x59
    ∷ 0x00 ∷ 0x40 ∷ 0x20 ∷ 0x04 ∷ []

-- a table area of one band that holds nothing
abbrev no_tables : List ℤ
no_tables = replicate 19 (pos 0)

-- packing that sample into so many bytes, with 32 slots of scratch
abbrev packed_into : ℕ → Result ℕ Refusal
packed_into room = packed (worked 1 8 1) no_tables (pos 130 ∷ []) 32 room

-- opening with memory for n samples of one band
abbrev opened_with : ℕ → List ℕ → Read Cube
opened_with n = opened (record { scratch = 32; tables = 19; image = n })

-- the length asked for without a sample: 3 where the settings are legal and within the limits
abbrev asked : Settings → Result ℕ Refusal
asked S = length_answer S [] [] 0

-- a weight of 0 after the error e beside the component 5, for ρ = vmin + 4
abbrev step : ℤ → ℤ → List ℤ
step vmin e = next_weights (row_of_bands 2 1 8 1 true 0 vmin 4 0) 1 e (pos 5 ∷ []) (pos 0 ∷ [])

-- every number of seven bits
abbrev seven_bits : List ℤ
seven_bits = join (λ i. one (pos i -ℤ pos 64)) 0 128

-- the refusals in the table's order
abbrev table : List Refusal
table =
    IllegalSetting ∷ SampleOutOfRange 0 ∷ WrongCount ∷ HouseLimit ∷ ShortArea ∷ NoRoom 0 ∷ EndsInHeader ∷ IllegalField ∷ BodyEnds 0
    ∷ BadCodeword 0 ∷ AfterEnd 0 ∷ BlockCoder ∷ UnfitFile ∷ RowOutOfTurn ∷ SecondNotRising ∷ NoTablesLent ∷ BadCalibration 0 ∷ NoSerialLeft ∷ []

-- the mapped values of samples 0 to 7 for D = 3 under s~
abbrev maps : ℤ → List ℕ
maps s = map (λ x. mapped (worked 1 3 1) s (pos x)) (0 ∷ 1 ∷ 2 ∷ 3 ∷ 4 ∷ 5 ∷ 6 ∷ 7 ∷ [])

-- Γ and Σ
abbrev statistics : ℕ → ℕ → Statistics
statistics c a = record { count = c; accumulator = a }

-- the numbers, each computed from the definitions
pub record Stars : Type 0 where
  -- the files of one sample, 130, and of two, 130 and 131, in words of one byte and of two
  one_sample_lem : file (worked 1 8 1) [] (pos 130 ∷ []) ≡ one_sample
  two_samples : file (worked 2 8 1) [] (pos 130 ∷ pos 131 ∷ [])
      ≡ 0x00 ∷ 0x00 ∷ 0x02 ∷ 0x00 ∷ 0x01 ∷ 0x00 ∷ 0x01 ∷ 0x11 ∷ 0x00 ∷ 0x00 ∷ 0x08 ∷ 0x00 ∷ 0x02 ∷ 0xA0 ∷ 0x00 ∷ 0x59
      ∷ 0x00 ∷ 0x40 ∷ 0x20 ∷ 0x04 ∷ 0x40 ∷ []
  two_bytes_a_word : file (worked 2 8 2) [] (pos 130 ∷ pos 131 ∷ [])
      ≡ 0x00 ∷ 0x00 ∷ 0x02 ∷ 0x00 ∷ 0x01 ∷ 0x00 ∷ 0x01 ∷ 0x11 ∷ 0x00 ∷ 0x00 ∷ 0x10 ∷ 0x00 ∷ 0x02 ∷ 0xA0 ∷ 0x00 ∷ 0x59
      ∷ 0x00 ∷ 0x40 ∷ 0x20 ∷ 0x04 ∷ 0x40 ∷ 0x00 ∷ []
  -- whole answers: the first file fits 20 bytes and not 19, and opens again
  packed_fits : packed_into 20 ≡ Ok 20
  packed_short : packed_into 19 ≡ Err (NoRoom 20)
  opened_whole : opened_with 1 one_sample ≡ got (record { settings = worked 1 8 1; tables = no_tables; samples = pos 130 ∷ [] }) []
  scaled_second : scaled_at (worked 2 8 1) [] (image_of (worked 2 8 1).image (pos 130 ∷ pos 131 ∷ [])) 0 1 ≡ pos 261
  mapped_second : mapped_at (worked 2 8 1) [] (image_of (worked 2 8 1).image (pos 130 ∷ pos 131 ∷ [])) 0 1 ≡ 1
  parameter_second : parameter 8 (initial_statistics (worked 2 8 1) [] 0) ≡ 0
  -- mapping for D = 3
  maps_five : maps (pos 5) ≡ 4 ∷ 2 ∷ 0 ∷ 1 ∷ 3 ∷ 5 ∷ 6 ∷ 7 ∷ []
  maps_four : maps (pos 4) ≡ 3 ∷ 1 ∷ 0 ∷ 2 ∷ 4 ∷ 5 ∷ 6 ∷ 7 ∷ []
  -- a register of 32 bits
  wraps_above : wrap 32 (pos (2 ^ 31)) ≡ neg_ℤ (pos (2 ^ 31))
  keeps_highest : wrap 32 (pos (2 ^ 31 - 1)) ≡ pos (2 ^ 31 - 1)
  wraps_below : wrap 32 (negsuc (2 ^ 31)) ≡ pos (2 ^ 31 - 1)
  -- weights for Ω = 4
  default_weights_lem : default_weights 4 3 ≡ pos 14 ∷ pos 1 ∷ pos 0 ∷ []
  lowest_weight_lem : lowest_weight 4 ≡ negsuc 63
  highest_weight_lem : highest_weight 4 ≡ pos 63
  custom_low : custom_weight 4 3 (negsuc 3) ≡ negsuc 56
  custom_high : custom_weight 4 3 (pos 3) ≡ pos 55
  custom_full : map (custom_weight 4 7) seven_bits ≡ seven_bits
  -- the step of a weight for U = 5, with ρ = 1 and ρ = −1: e = 0 counts as not negative, and halves go down
  step_none : step (negsuc 2) (pos 0) ≡ pos 1 ∷ []
  step_below : step (negsuc 2) (negsuc 0) ≡ negsuc 0 ∷ []
  step_none_finer : step (negsuc 4) (pos 0) ≡ pos 5 ∷ []
  step_below_finer : step (negsuc 4) (negsuc 0) ≡ negsuc 4 ∷ []
  -- initial statistics
  accumulator_three : initial_accumulator 3 (2 ^ 1) ≡ 23
  parameter_three : parameter 8 (statistics 2 23) ≡ 3
  accumulator_none : initial_accumulator 0 (2 ^ 8) ≡ 286
  parameter_none : parameter 8 (statistics 256 286) ≡ 0
  -- codewords for D = 8, k = 0, Umax = 8, and those that no writer makes
  codeword_seven : codeword 8 8 0 7 ≡ zeros 7 ++ true ∷ []
  codeword_eight : codeword 8 8 0 8 ≡ zeros 8 ++ bits 8 8
  escape_of_seven : parse 8 8 0 (zeros 8 ++ bits 8 7) ≡ bad
  sixteen_of_four_bits : parse 4 8 2 (zeros 4 ++ true ∷ false ∷ false ∷ []) ≡ bad
  -- the same in a file, as its second value: refused 10, with rank 1
  refused_escape : opened_with 2
      (0x00 ∷ 0x00 ∷ 0x02 ∷ 0x00 ∷ 0x01 ∷ 0x00 ∷ 0x01 ∷ 0x11 ∷ 0x00 ∷ 0x00 ∷ 0x08 ∷ 0x00 ∷ 0x02 ∷ 0xA0 ∷ 0x00 ∷ 0x59
      ∷ 0x00 ∷ 0x40 ∷ 0x20 ∷ 0x04 ∷ 0x00 ∷ 0x07 ∷ [])
      ≡ refused (BadCodeword 1)
  refused_sixteen : opened_with 2
      (0x00 ∷ 0x00 ∷ 0x02 ∷ 0x00 ∷ 0x01 ∷ 0x00 ∷ 0x01 ∷ 0x09 ∷ 0x00 ∷ 0x00 ∷ 0x08 ∷ 0x00 ∷ 0x02 ∷ 0xA0 ∷ 0x00 ∷ 0x59
      ∷ 0x00 ∷ 0x40 ∷ 0x24 ∷ 0x00 ∷ 0x80 ∷ [])
      ≡ refused (BadCodeword 1)
  codeword_value : refusals.value (BadCodeword 1) ≡ 1
  numbers : map refusals.number table ≡ 1 ∷ 2 ∷ 3 ∷ 4 ∷ 5 ∷ 6 ∷ 7 ∷ 8 ∷ 9 ∷ 10 ∷ 11 ∷ 12 ∷ 13 ∷ 14 ∷ 15 ∷ 16 ∷ 17 ∷ 18 ∷ []
  -- γ* = 9 and 10, Nz = 4,096 and 4,097, M = Nz and Nz + 1, and M = 0, which is not Nz
  rescaling_nine : asked (row_of_bands 1 1 8 1 true 0 (negsuc 0) 9 0) ≡ Err WrongCount
  rescaling_ten : asked (row_of_bands 1 1 8 1 true 0 (negsuc 0) 10 0) ≡ Err IllegalSetting
  bands_most : asked (row_of_bands 1 4096 8 1 true 0 (negsuc 0) 4 0) ≡ Err WrongCount
  bands_more : asked (row_of_bands 1 4097 8 1 true 0 (negsuc 0) 4 0) ≡ Err HouseLimit
  depth_most : asked (row_of_bands 1 3 8 1 false 3 (negsuc 0) 4 0) ≡ Err WrongCount
  depth_more : asked (row_of_bands 1 3 8 1 false 4 (negsuc 0) 4 0) ≡ Err IllegalSetting
  depth_none : asked (row_of_bands 1 3 8 1 false 0 (negsuc 0) 4 0) ≡ Err IllegalSetting

pub stars : Stars
unfolding floor_mod clip wrap is_even bits odd number first_bytes pack filled field codeword run parse join sum_below entry backward component_count lowest highest middle sample_count neighbours_at position_at local_sum sum_at directional central_at centrals_at directional_at components_at eighths default_weights custom_weight initial_weights inner scaled_by scaled_prediction first_prediction exponent_by exponent gain weight_step stepped_weights next_weights theta map_residual mapped_by mapped scaled_with weights_behind weights_at scaled_at mapped_at initial_parameter initial_accumulator initial_statistics next_statistics largest parameter statistics_behind statistics_at encode encode_at fields image_fields exponent_of predictor_fields coder_fields twos weight_table accumulator_table weight_part accumulator_part header column_of row_of band_sequential sub_frames frame_of band_interleaved order image_of code codes body file_bits file unpack settings_legal image_legal interval_legal predictor_legal coder_legal limited first_hit areas_short check_pack in_range first_out every weight_legal accumulator_legal band_legal tables_legal unmap_residual unmapped_by unmapped decode split same parts.image_of predictor_of coder_of signed_of components_before number_at used slots tables_of read_image read_predictor read_coder read_table read_weights read_accumulators read_header mapped_off restored read_body length_answer packed at_end behind_header opened_bits opened refusals.number refusals.value
stars = record {
  one_sample_lem = refl;
  two_samples = refl;
  two_bytes_a_word = refl;
  packed_fits = refl;
  packed_short = refl;
  opened_whole = refl;
  scaled_second = refl;
  mapped_second = refl;
  parameter_second = refl;
  maps_five = refl;
  maps_four = refl;
  wraps_above = refl;
  keeps_highest = refl;
  wraps_below = refl;
  default_weights_lem = refl;
  lowest_weight_lem = refl;
  highest_weight_lem = refl;
  custom_low = refl;
  custom_high = refl;
  custom_full = refl;
  step_none = refl;
  step_below = refl;
  step_none_finer = refl;
  step_below_finer = refl;
  accumulator_three = refl;
  parameter_three = refl;
  accumulator_none = refl;
  parameter_none = refl;
  codeword_seven = refl;
  codeword_eight = refl;
  escape_of_seven = refl;
  sixteen_of_four_bits = refl;
  refused_escape = refl;
  refused_sixteen = refl;
  codeword_value = refl;
  numbers = refl;
  rescaling_nine = refl;
  rescaling_ten = refl;
  bands_most = refl;
  bands_more = refl;
  depth_most = refl;
  depth_more = refl;
  depth_none = refl;
}

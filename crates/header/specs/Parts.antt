-- The fixed fields of the three parts (tables 5-1, 5-2 and 5-3): as written, and the settings that their numbers name.
use Rattle.std.specs.Prelude.{Bool, cond, List, [], ◌∷◌, ℕ, zero, suc, ◌+◌, ◌-◌, ◌^◌, pos, nat_abs, ◌+ℤ◌, ◌-ℤ◌, eqb}
use Rattle.settings.specs.declared.Image.{Image}
use Rattle.settings.specs.declared.Predictor.{Predictor}
use Rattle.settings.specs.declared.Coder.{Coder}
use Rattle.header.specs.Fields.{Field, ◌∶◌, flag}
use Rattle.header.specs.Places.{◌‼◌, user_data, x_size, y_size, z_size, sample_type, dynamic_range, encoding_order, interleaving_depth, word_size, prediction_bands, prediction_mode, local_sum_type, register_size, weight_resolution, exponent_interval, initial_exponent, final_exponent, weight_method, weight_table_flag, weight_precision, unary_limit, rescaling_size, initial_count, accumulator_constant, accumulator_table_flag}

-- 12 bytes: user data, Nx, Ny, Nz, sample type, two reserved, D, order, M, reserved, B, coder type, five reserved
unfoldable pub image_fields : Image → ℕ → List Field
image_fields I coder =
    8 ∶ I.user ∷ 16 ∶ I.nx ∷ 16 ∶ I.ny ∷ 16 ∶ I.nz ∷ 1 ∶ flag I.signed ∷ 1 ∶ 0 ∷ 1 ∶ 0 ∷ 4 ∶ I.depth
    ∷ 1 ∶ flag I.sequential ∷ 16 ∶ cond I.sequential 0 I.interleave ∷ 2 ∶ 0 ∷ 3 ∶ I.word ∷ 1 ∶ coder
    ∷ 1 ∶ 0 ∷ 1 ∶ 0 ∷ 2 ∶ 0 ∷ 2 ∶ 0 ∷ 4 ∶ 0 ∷ []

-- the widths of table 5-1
abbrev pub image_widths : List ℕ
image_widths = 8 ∷ 16 ∷ 16 ∷ 16 ∷ 1 ∷ 1 ∷ 1 ∷ 4 ∷ 1 ∷ 16 ∷ 2 ∷ 3 ∷ 1 ∷ 1 ∷ 1 ∷ 2 ∷ 2 ∷ 4 ∷ []

-- their bits
abbrev pub image_bits : ℕ
image_bits = 96

-- the e ≤ n with 2^e = x
unfoldable pub exponent_of : ℕ → ℕ → ℕ
exponent_of zero x = 0
exponent_of (suc n) x = cond (eqb x (2 ^ suc n)) (suc n) (exponent_of n x)

-- 5 bytes: two reserved, P, mode, reserved, sums, reserved, R, Ω − 4, log2 tinc − 4, vmin + 6, vmax + 6, reserved, custom, table flag, Q
unfoldable pub predictor_fields : Predictor → List Field
predictor_fields P =
    1 ∶ 0 ∷ 1 ∶ 0 ∷ 4 ∶ P.bands ∷ 1 ∶ flag P.reduced ∷ 1 ∶ 0 ∷ 1 ∶ flag P.column ∷ 1 ∶ 0 ∷ 6 ∶ P.register
    ∷ 4 ∶ (P.resolution - 4) ∷ 4 ∶ (exponent_of 11 P.interval - 4) ∷ 4 ∶ nat_abs (P.vmin +ℤ pos 6)
    ∷ 4 ∶ nat_abs (P.vmax +ℤ pos 6) ∷ 1 ∶ 0 ∷ 1 ∶ flag P.custom ∷ 1 ∶ flag P.weights_in_file
    ∷ 5 ∶ cond P.custom P.precision 0 ∷ []

-- the widths of table 5-2
abbrev pub predictor_widths : List ℕ
predictor_widths = 1 ∷ 1 ∷ 4 ∷ 1 ∷ 1 ∷ 1 ∷ 1 ∷ 6 ∷ 4 ∷ 4 ∷ 4 ∷ 4 ∷ 1 ∷ 1 ∷ 1 ∷ 5 ∷ []

-- their bits, and the place behind them, where the weight table stands
abbrev pub predictor_bits : ℕ
predictor_bits = 40

abbrev pub predictor_end : ℕ
predictor_end = image_bits + predictor_bits

-- 2 bytes: Umax, γ* − 4, γ0, K or all ones, table flag
unfoldable pub coder_fields : Coder → List Field
coder_fields C =
    5 ∶ C.unary ∷ 3 ∶ (C.rescaling - 4) ∷ 3 ∶ C.initial ∷ 4 ∶ cond C.tabled 15 C.constant ∷ 1 ∶ flag C.k_in_file ∷ []

-- the widths of table 5-3
abbrev pub coder_widths : List ℕ
coder_widths = 5 ∷ 3 ∷ 3 ∷ 4 ∷ 1 ∷ []

-- their bits, and those of all three parts
abbrev pub coder_bits : ℕ
coder_bits = 16

abbrev pub fixed_bits : ℕ
fixed_bits = predictor_end + coder_bits

-- ---- and back

-- the number from 1 to m whose remainder by m is v
abbrev pub unwrapped : ℕ → ℕ → ℕ
unwrapped m v = cond (eqb v 0) m v

-- a flag off its number
abbrev pub is_one : ℕ → Bool
is_one v = eqb v 1

-- all ones, which say that there is no K
abbrev pub no_constant : ℕ → Bool
no_constant v = eqb v 15

-- the image settings that the 18 numbers of table 5-1 name
unfoldable pub image_of : List ℕ → Image
image_of v = record {
  user = v ‼ user_data;
  nx = unwrapped (2 ^ 16) (v ‼ x_size);
  ny = unwrapped (2 ^ 16) (v ‼ y_size);
  nz = unwrapped (2 ^ 16) (v ‼ z_size);
  signed = is_one (v ‼ sample_type);
  depth = unwrapped (2 ^ 4) (v ‼ dynamic_range);
  sequential = is_one (v ‼ encoding_order);
  interleave = cond (is_one (v ‼ encoding_order)) 0 (unwrapped (2 ^ 16) (v ‼ interleaving_depth));
  word = unwrapped (2 ^ 3) (v ‼ word_size);
}

-- the predictor settings that the 16 numbers of table 5-2 name
unfoldable pub predictor_of : List ℕ → Predictor
predictor_of v = record {
  bands = v ‼ prediction_bands;
  reduced = is_one (v ‼ prediction_mode);
  column = is_one (v ‼ local_sum_type);
  register = unwrapped (2 ^ 6) (v ‼ register_size);
  resolution = v ‼ weight_resolution + 4;
  interval = 2 ^ (v ‼ exponent_interval + 4);
  vmin = pos (v ‼ initial_exponent) -ℤ pos 6;
  vmax = pos (v ‼ final_exponent) -ℤ pos 6;
  custom = is_one (v ‼ weight_method);
  precision = cond (is_one (v ‼ weight_method)) (v ‼ weight_precision) 0;
  weights_in_file = is_one (v ‼ weight_table_flag);
}

-- the coder settings that the 5 numbers of table 5-3 name
unfoldable pub coder_of : List ℕ → Coder
coder_of v = record {
  unary = unwrapped (2 ^ 5) (v ‼ unary_limit);
  rescaling = v ‼ rescaling_size + 4;
  initial = unwrapped (2 ^ 3) (v ‼ initial_count);
  tabled = no_constant (v ‼ accumulator_constant);
  constant = cond (no_constant (v ‼ accumulator_constant)) 0 (v ‼ accumulator_constant);
  k_in_file = is_one (v ‼ accumulator_table_flag);
}

-- ---- settings that are none: M when band-sequential, Q with default weights, K beside its table

-- M as 0 where bands are sequential
unfoldable pub used_image : Image → Image
used_image I = record {
  user = I.user;
  nx = I.nx;
  ny = I.ny;
  nz = I.nz;
  signed = I.signed;
  depth = I.depth;
  sequential = I.sequential;
  interleave = cond I.sequential 0 I.interleave;
  word = I.word;
}

-- Q as 0 where weights are the default ones
unfoldable pub used_predictor : Predictor → Predictor
used_predictor P = record {
  bands = P.bands;
  reduced = P.reduced;
  column = P.column;
  register = P.register;
  resolution = P.resolution;
  interval = P.interval;
  vmin = P.vmin;
  vmax = P.vmax;
  custom = P.custom;
  precision = cond P.custom P.precision 0;
  weights_in_file = P.weights_in_file;
}

-- K as 0 where there is a table of k'
unfoldable pub used_coder : Coder → Coder
used_coder C = record {
  unary = C.unary;
  rescaling = C.rescaling;
  initial = C.initial;
  tabled = C.tabled;
  constant = cond C.tabled 0 C.constant;
  k_in_file = C.k_in_file;
}

-- The fields of the three parts by name: each name is the place of a field in its table's row.
-- Reserved bits that the newer edition (123.0-B-2) gives a meaning have its names; they are zero here as all reserved bits are.
use Rattle.std.specs.Prelude.{List, ℕ, get_or}

-- the number of a field among those of its part
abbrev pub ◌‼◌ : List ℕ → ℕ → ℕ
v ‼ place = get_or v place 0

infixl 95 ◌‼◌
-- ---- table 5-1; large_range_flag, hybrid_coder, fidelity_control and supplementary_tables are reserved

abbrev pub user_data : ℕ
user_data = 0

abbrev pub x_size : ℕ
x_size = 1

abbrev pub y_size : ℕ
y_size = 2

abbrev pub z_size : ℕ
z_size = 3

abbrev pub sample_type : ℕ
sample_type = 4

abbrev pub reserved_behind_type : ℕ
reserved_behind_type = 5

abbrev pub large_range_flag : ℕ
large_range_flag = 6

abbrev pub dynamic_range : ℕ
dynamic_range = 7

abbrev pub encoding_order : ℕ
encoding_order = 8

abbrev pub interleaving_depth : ℕ
interleaving_depth = 9

abbrev pub reserved_before_word : ℕ
reserved_before_word = 10

abbrev pub word_size : ℕ
word_size = 11

abbrev pub coder_type : ℕ
coder_type = 12

abbrev pub hybrid_coder : ℕ
hybrid_coder = 13

abbrev pub reserved_behind_coder : ℕ
reserved_behind_coder = 14

abbrev pub fidelity_control : ℕ
fidelity_control = 15

abbrev pub reserved_behind_fidelity : ℕ
reserved_behind_fidelity = 16

abbrev pub supplementary_tables : ℕ
supplementary_tables = 17

-- ---- table 5-2; representative_flag, exponent_offset_flag, narrow_sums and exponent_offset_table_flag are reserved

abbrev pub reserved_in_front : ℕ
reserved_in_front = 0

abbrev pub representative_flag : ℕ
representative_flag = 1

abbrev pub prediction_bands : ℕ
prediction_bands = 2

abbrev pub prediction_mode : ℕ
prediction_mode = 3

abbrev pub exponent_offset_flag : ℕ
exponent_offset_flag = 4

abbrev pub local_sum_type : ℕ
local_sum_type = 5

abbrev pub narrow_sums : ℕ
narrow_sums = 6

abbrev pub register_size : ℕ
register_size = 7

abbrev pub weight_resolution : ℕ
weight_resolution = 8

abbrev pub exponent_interval : ℕ
exponent_interval = 9

abbrev pub initial_exponent : ℕ
initial_exponent = 10

abbrev pub final_exponent : ℕ
final_exponent = 11

abbrev pub exponent_offset_table_flag : ℕ
exponent_offset_table_flag = 12

abbrev pub weight_method : ℕ
weight_method = 13

abbrev pub weight_table_flag : ℕ
weight_table_flag = 14

abbrev pub weight_precision : ℕ
weight_precision = 15

-- ---- table 5-3

abbrev pub unary_limit : ℕ
unary_limit = 0

abbrev pub rescaling_size : ℕ
rescaling_size = 1

abbrev pub initial_count : ℕ
initial_count = 2

abbrev pub accumulator_constant : ℕ
accumulator_constant = 3

abbrev pub accumulator_table_flag : ℕ
accumulator_table_flag = 4

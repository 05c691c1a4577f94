-- What the numbers of a part's fields must hold so that its bits are those that its settings write, as tests of single fields. Those of
-- table 5-3 always are: each number says a setting.
use Rattle.std.specs.Prelude.{Bool, true, not, ◌&&◌, ◌||◌, List, [], ◌∷◌, ℕ, leb, eqb}
use Rattle.header.specs.Places.{◌‼◌, reserved_behind_type, large_range_flag, encoding_order, interleaving_depth, reserved_before_word, hybrid_coder, reserved_behind_coder, fidelity_control, reserved_behind_fidelity, supplementary_tables, reserved_in_front, representative_flag, exponent_offset_flag, narrow_sums, exponent_offset_table_flag, weight_method, weight_precision}
use Rattle.header.specs.Parts.{is_one}

-- every width is from 1 to 16
unfoldable pub fitting : List ℕ → Bool
fitting [] = true
fitting (w ∷ ws) = leb 1 w && leb w 16 && fitting ws

-- table 5-1: reserved bits, M when band-sequential
abbrev pub image_plain : List ℕ → Bool
image_plain v =
    eqb (v ‼ reserved_behind_type) 0 && eqb (v ‼ large_range_flag) 0 && (not (is_one (v ‼ encoding_order)) || eqb (v ‼ interleaving_depth) 0)
    && eqb (v ‼ reserved_before_word) 0 && eqb (v ‼ hybrid_coder) 0 && eqb (v ‼ reserved_behind_coder) 0 && eqb (v ‼ fidelity_control) 0
    && eqb (v ‼ reserved_behind_fidelity) 0 && eqb (v ‼ supplementary_tables) 0

-- table 5-2: reserved bits, Q with default weights
abbrev pub predictor_plain : List ℕ → Bool
predictor_plain v =
    eqb (v ‼ reserved_in_front) 0 && eqb (v ‼ representative_flag) 0 && eqb (v ‼ exponent_offset_flag) 0 && eqb (v ‼ narrow_sums) 0
    && eqb (v ‼ exponent_offset_table_flag) 0 && (is_one (v ‼ weight_method) || eqb (v ‼ weight_precision) 0)

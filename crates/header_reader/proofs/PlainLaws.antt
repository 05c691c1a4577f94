-- The bits of a part are those that its settings write exactly when single fields hold what they must: all others say their settings.
use mathlib.Core.Path.{◌≡◌, refl, sym, ap, ◌∙◌}
use mathlib.Core.Bool.{Bool, true, false, not, cond, ◌&&◌, ◌||◌}
use mathlib.Core.List.{List, [], ◌∷◌}
use Prim.Native.Nat.{ℕ, zero, suc, ◌+◌, ◌-◌, ◌%◌, ◌^◌, ◌≤◌, ◌<◌}
use native.Mathlib.Nat.{mod-eq_of_lt, mod_self}
use native.Mathlib.Decide.{dec_le}
use native.Mathlib.Omega.{arith}
use borrow.Author.Tests.{eq-eqb, ne_eqb, eqb-true}
use lib.Dec.{eqb}
use lib.IntN.{ℤ, pos, neg_ℤ, nat_abs, ◌+ℤ◌, ◌-ℤ◌, +ℤ_assoc, +ℤ_invl, +ℤ_idr}
use lib.ListN.{length, take, get_or}
use lib.Pow.{pow-lt, pow_mono}
use Rattle.settings.specs.declared.Image.{Image}
use Rattle.settings.specs.Legal.{predictor_legal}
use Rattle.settings.specs.LegalLaws.{legal_predictor, Power}
use Rattle.settings.specs.Truths.{parts, whole}
use Rattle.header.specs.Fields.{fields, split, same, flag}
use Rattle.header.specs.FieldLaws.{widths, values, total, split_lt, split_same, same_split}
use Rattle.header.specs.Places.{◌‼◌, user_data, x_size, y_size, z_size, sample_type, reserved_behind_type, large_range_flag, dynamic_range, encoding_order, interleaving_depth, reserved_before_word, word_size, coder_type, hybrid_coder, reserved_behind_coder, fidelity_control, reserved_behind_fidelity, supplementary_tables, reserved_in_front, representative_flag, prediction_bands, prediction_mode, exponent_offset_flag, local_sum_type, narrow_sums, register_size, weight_resolution, exponent_interval, initial_exponent, final_exponent, exponent_offset_table_flag, weight_method, weight_table_flag, weight_precision, unary_limit, rescaling_size, initial_count, accumulator_constant, accumulator_table_flag}
use Rattle.header.specs.Parts.{image_fields, image_widths, image_of, predictor_fields, predictor_widths, predictor_of, coder_fields, coder_widths, coder_of, exponent_of, unwrapped, is_one, no_constant, image_bits, predictor_bits, coder_bits}
use Rattle.header.specs.PartLaws.{exponent_power}
use Rattle.header.specs.Plain.{image_plain, predictor_plain}

-- two tests that show each other are the same
pub both : (a b : Bool) → (a ≡ true → b ≡ true) → (b ≡ true → a ≡ true) → a ≡ b
both true b f g = sym (f refl)
both false true f g = g refl
both false false f g = refl

and_same : (a b c : Bool) → (a ≡ true → b ≡ c) → (a && b) ≡ (a && c)
and_same true b c f = f refl
and_same false b c f = refl

-- ---- a number that says its setting is written again

small : (w v : ℕ) → v < 2 ^ w → v ≡ v % 2 ^ w
small w v h = sym (mod-eq_of_lt h)

wrapped : (w v : ℕ) → v < 2 ^ w → v ≡ unwrapped (2 ^ w) v % 2 ^ w
wrapped w zero h = rw mod_self
wrapped w (suc v) h = rw (ne_eqb (suc v) 0 (λ e. omega arith)) (small w (suc v) h)

flagged : (v : ℕ) → v < 2 → v ≡ flag (is_one v) % 2 ^ 1
flagged zero h = refl
flagged (suc zero) h = refl
flagged (suc (suc v)) h = absurd (omega arith)

shifted : (w v : ℕ) → v < 2 ^ w → v ≡ (v + 4 - 4) % 2 ^ w
shifted w v h = let e : v + 4 - 4 ≡ v = omega arith in rw e (small w v h)

-- M is zero beside a flag
unless_forth : (b : Bool) (v x : ℕ) → v ≡ cond b 0 x % 2 ^ 16 → (not b || eqb v 0) ≡ true
unless_forth true v x e = eq-eqb v 0 e
unless_forth false v x e = refl

unless_back : (b : Bool) (v : ℕ) → v < 2 ^ 16 → (not b || eqb v 0) ≡ true → v ≡ cond b 0 (cond b 0 (unwrapped (2 ^ 16) v)) % 2 ^ 16
unless_back true v h e = eqb-true v 0 e
unless_back false v h e = wrapped 16 v h

-- Q is zero without a flag
where_forth : (b : Bool) (v x : ℕ) → v ≡ cond b x 0 % 2 ^ 5 → (b || eqb v 0) ≡ true
where_forth true v x e = refl
where_forth false v x e = eq-eqb v 0 e

where_back : (b : Bool) (v : ℕ) → v < 2 ^ 5 → (b || eqb v 0) ≡ true → v ≡ cond b (cond b v 0) 0 % 2 ^ 5
where_back true v h e = small 5 v h
where_back false v h e = eqb-true v 0 e

-- all ones where there is no K
ones_back : (v : ℕ) → v < 2 ^ 4 → v ≡ cond (no_constant v) 15 (cond (no_constant v) 0 v) % 2 ^ 4
ones_back v h = go (no_constant v) refl
  where
    go : (b : Bool) → no_constant v ≡ b → v ≡ cond b 15 (cond b 0 v) % 2 ^ 4
    go true e = eqb-true v 15 e
    go false e = small 4 v h

-- ---- the image

abbrev image_tests : List ℕ → List Bool
image_tests v = eqb (v ‼ large_range_flag) 0 ∷ (not (is_one (v ‼ encoding_order)) || eqb (v ‼ interleaving_depth) 0) ∷ eqb (v ‼ reserved_before_word) 0 ∷ eqb (v ‼ hybrid_coder) 0 ∷ eqb (v ‼ reserved_behind_coder) 0 ∷ eqb (v ‼ fidelity_control) 0 ∷ eqb (v ‼ reserved_behind_fidelity) 0 ∷ eqb (v ‼ supplementary_tables) 0 ∷ []

image_forth : (l : List Bool) → same (take image_bits l) (fields (image_fields (image_of (split image_widths l)) (split image_widths l ‼ coder_type))) ≡ true → image_plain (split image_widths l) ≡ true
unfolding image_fields image_of widths values total
image_forth l e =
    let v : List ℕ = split image_widths l in
    let q : v ≡ values (image_fields (image_of v) (v ‼ coder_type)) = same_split (image_fields (image_of v) (v ‼ coder_type)) l e in
    let at : (i : ℕ) → v ‼ i ≡ values (image_fields (image_of v) (v ‼ coder_type)) ‼ i = λ i. ap (λ (x : List ℕ). x ‼ i) q in
    whole (eqb (v ‼ reserved_behind_type) 0) (image_tests v)
    (eq-eqb _ 0 (at reserved_behind_type), (eq-eqb _ 0 (at large_range_flag), (unless_forth (is_one (v ‼ encoding_order)) (v ‼ interleaving_depth) (image_of v).interleave (at interleaving_depth), (eq-eqb _ 0 (at reserved_before_word), (eq-eqb _ 0 (at hybrid_coder), (eq-eqb _ 0 (at reserved_behind_coder), (eq-eqb _ 0 (at fidelity_control), (eq-eqb _ 0 (at reserved_behind_fidelity), (eq-eqb _ 0 (at supplementary_tables), tt)))))))))

image_back : (l : List Bool) → image_bits ≤ length l → image_plain (split image_widths l) ≡ true → same (take image_bits l) (fields (image_fields (image_of (split image_widths l)) (split image_widths l ‼ coder_type))) ≡ true
unfolding image_fields image_of widths values total split
image_back l h e =
    let v : List ℕ = split image_widths l in
    let n : ℕ → ℕ = λ i. v ‼ i in
    let lt : (i : ℕ) → n i < 2 ^ get_or image_widths i 0 = split_lt image_widths l in
    let k = parts (eqb (n reserved_behind_type) 0) (image_tests v) e in
    split_same (image_fields (image_of v) (v ‼ coder_type)) l h
    (λ i. small 8 (n user_data) (lt user_data) i ∷ wrapped 16 (n x_size) (lt x_size) i ∷ wrapped 16 (n y_size) (lt y_size) i ∷ wrapped 16 (n z_size) (lt z_size) i ∷ flagged (n sample_type) (lt sample_type) i
    ∷ eqb-true (n reserved_behind_type) 0 k.0 i ∷ eqb-true (n large_range_flag) 0 k.1.0 i ∷ wrapped 4 (n dynamic_range) (lt dynamic_range) i ∷ flagged (n encoding_order) (lt encoding_order) i
    ∷ unless_back (is_one (n encoding_order)) (n interleaving_depth) (lt interleaving_depth) k.1.1.0 i ∷ eqb-true (n reserved_before_word) 0 k.1.1.1.0 i ∷ wrapped 3 (n word_size) (lt word_size) i
    ∷ small 1 (n coder_type) (lt coder_type) i ∷ eqb-true (n hybrid_coder) 0 k.1.1.1.1.0 i ∷ eqb-true (n reserved_behind_coder) 0 k.1.1.1.1.1.0 i
    ∷ eqb-true (n fidelity_control) 0 k.1.1.1.1.1.1.0 i ∷ eqb-true (n reserved_behind_fidelity) 0 k.1.1.1.1.1.1.1.0 i ∷ eqb-true (n supplementary_tables) 0 k.1.1.1.1.1.1.1.1.0 i ∷ [])

pub image_plain_lem : (l : List Bool) → image_bits ≤ length l → same (take image_bits l) (fields (image_fields (image_of (split image_widths l)) (split image_widths l ‼ coder_type))) ≡ image_plain (split image_widths l)
image_plain_lem l h = both _ _ (image_forth l) (image_back l h)

-- ---- the predictor

-- a legal interval has an exponent that its field can say
exponent_back : (v : ℕ) → v < 2 ^ 4 → Power (2 ^ (v + 4)) → v ≡ (exponent_of 11 (2 ^ (v + 4)) - 4) % 2 ^ 4
exponent_back v h p = go (dec_le (v + 4) 11)
  where
    go : Dec (v + 4 ≤ 11) → v ≡ (exponent_of 11 (2 ^ (v + 4)) - 4) % 2 ^ 4
    go (yes k) = rw (exponent_power 11 (v + 4) k) (shifted 4 v h)
    go (no k) =
        let a : 2 ^ p.exponent ≤ 2 ^ 11 = pow_mono {i = p.exponent} {j = 11} p.most in
        let b : 2 ^ 11 < 2 ^ (v + 4) = pow-lt {i = 11} {j = v + 4} (omega arith) in
        absurd (omega (arith, p.is))

raised_back : (v : ℕ) → v < 2 ^ 4 → v ≡ nat_abs (pos v -ℤ pos 6 +ℤ pos 6) % 2 ^ 4
raised_back v h =
    let e : pos v -ℤ pos 6 +ℤ pos 6 ≡ pos v = +ℤ_assoc (pos v) (neg_ℤ (pos 6)) (pos 6) ∙ ap (λ (x : ℤ). pos v +ℤ x) (+ℤ_invl (pos 6)) ∙ +ℤ_idr (pos v) in
    small 4 v h ∙ ap (λ (x : ℤ). nat_abs x % 2 ^ 4) (sym e)

abbrev predictor_tests : List ℕ → List Bool
predictor_tests v = eqb (v ‼ representative_flag) 0 ∷ eqb (v ‼ exponent_offset_flag) 0 ∷ eqb (v ‼ narrow_sums) 0 ∷ eqb (v ‼ exponent_offset_table_flag) 0 ∷ (is_one (v ‼ weight_method) || eqb (v ‼ weight_precision) 0) ∷ []

predictor_forth : (l : List Bool) → same (take predictor_bits l) (fields (predictor_fields (predictor_of (split predictor_widths l)))) ≡ true → predictor_plain (split predictor_widths l) ≡ true
unfolding predictor_fields predictor_of widths values total
predictor_forth l e =
    let v : List ℕ = split predictor_widths l in
    let q : v ≡ values (predictor_fields (predictor_of v)) = same_split (predictor_fields (predictor_of v)) l e in
    let at : (i : ℕ) → v ‼ i ≡ values (predictor_fields (predictor_of v)) ‼ i = λ i. ap (λ (x : List ℕ). x ‼ i) q in
    whole (eqb (v ‼ reserved_in_front) 0) (predictor_tests v)
    (eq-eqb _ 0 (at reserved_in_front), (eq-eqb _ 0 (at representative_flag), (eq-eqb _ 0 (at exponent_offset_flag), (eq-eqb _ 0 (at narrow_sums), (eq-eqb _ 0 (at exponent_offset_table_flag), (where_forth (is_one (v ‼ weight_method)) (v ‼ weight_precision) (predictor_of v).precision (at weight_precision), tt))))))

predictor_back : (I : Image) (l : List Bool) → predictor_bits ≤ length l → predictor_legal I (predictor_of (split predictor_widths l)) ≡ true → predictor_plain (split predictor_widths l) ≡ true
    → same (take predictor_bits l) (fields (predictor_fields (predictor_of (split predictor_widths l)))) ≡ true
unfolding predictor_fields predictor_of widths values total split
predictor_back I l h g e =
    let v : List ℕ = split predictor_widths l in
    let n : ℕ → ℕ = λ i. v ‼ i in
    let lt : (i : ℕ) → n i < 2 ^ get_or predictor_widths i 0 = split_lt predictor_widths l in
    let k = parts (eqb (n reserved_in_front) 0) (predictor_tests v) e in
    split_same (predictor_fields (predictor_of v)) l h
    (λ i. eqb-true (n reserved_in_front) 0 k.0 i ∷ eqb-true (n representative_flag) 0 k.1.0 i ∷ small 4 (n prediction_bands) (lt prediction_bands) i ∷ flagged (n prediction_mode) (lt prediction_mode) i
    ∷ eqb-true (n exponent_offset_flag) 0 k.1.1.0 i ∷ flagged (n local_sum_type) (lt local_sum_type) i ∷ eqb-true (n narrow_sums) 0 k.1.1.1.0 i ∷ wrapped 6 (n register_size) (lt register_size) i
    ∷ shifted 4 (n weight_resolution) (lt weight_resolution) i ∷ exponent_back (n exponent_interval) (lt exponent_interval) (legal_predictor I (predictor_of v) g).interval_power i ∷ raised_back (n initial_exponent) (lt initial_exponent) i
    ∷ raised_back (n final_exponent) (lt final_exponent) i ∷ eqb-true (n exponent_offset_table_flag) 0 k.1.1.1.1.0 i ∷ flagged (n weight_method) (lt weight_method) i
    ∷ flagged (n weight_table_flag) (lt weight_table_flag) i ∷ where_back (is_one (n weight_method)) (n weight_precision) (lt weight_precision) k.1.1.1.1.1.0 i ∷ [])

pub predictor_plain_lem : (I : Image) (l : List Bool) → predictor_bits ≤ length l
    → (predictor_legal I (predictor_of (split predictor_widths l)) && same (take predictor_bits l) (fields (predictor_fields (predictor_of (split predictor_widths l)))))
    ≡ (predictor_legal I (predictor_of (split predictor_widths l)) && predictor_plain (split predictor_widths l))
predictor_plain_lem I l h = and_same _ _ _ (λ g. both _ _ (predictor_forth l) (predictor_back I l h g))

-- ---- the coder

-- every number of table 5-3 says a setting
pub coder_plain : (l : List Bool) → coder_bits ≤ length l → same (take coder_bits l) (fields (coder_fields (coder_of (split coder_widths l)))) ≡ true
unfolding coder_fields coder_of widths values total split
coder_plain l h =
    let v : List ℕ = split coder_widths l in
    let n : ℕ → ℕ = λ i. v ‼ i in
    let lt : (i : ℕ) → n i < 2 ^ get_or coder_widths i 0 = split_lt coder_widths l in
    split_same (coder_fields (coder_of v)) l h
    (λ i. wrapped 5 (n unary_limit) (lt unary_limit) i ∷ shifted 3 (n rescaling_size) (lt rescaling_size) i ∷ wrapped 3 (n initial_count) (lt initial_count) i ∷ ones_back (n accumulator_constant) (lt accumulator_constant) i ∷ flagged (n accumulator_table_flag) (lt accumulator_table_flag) i ∷ [])

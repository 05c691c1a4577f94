-- A table is there with its fill, which is zero, exactly when the definition reads it; its entries stand in the file in a row.
use mathlib.Core.Path.{◌≡◌, refl, sym, ap, ap₂, ◌∙◌}
use mathlib.Core.Bool.{Bool, true, false, ◌&&◌, and-true}
use mathlib.Core.List.{List, [], ◌∷◌, ◌++◌, map}
use Prim.Native.Nat.{ℕ, zero, suc, ◌+◌, ◌-◌, ◌*◌, ◌≤◌, ◌<◌}
use native.Mathlib.Nat.{mod-eq_of_lt, zero-add}
use native.Mathlib.Numerals.{add-one}
use Rattle.std.specs.List.{list_all, range_with_len}
use Rattle.std.proofs.lemmas.List.FromFn.{map-range_with_len_more}
use Rattle.std.proofs.lemmas.List.Folds.{list_all-append, list_all-map}
use native.Mathlib.Omega.{arith}
use borrow.Author.Tests.{ltb-false, eq-eqb, eqb-true}
use lib.Dec.{leb, ltb, eqb}
use lib.ListN.{length, take, drop, length-drop}
use lib.Seq.{take-add, drop-drop, length-take-le}
use lib.Pow.{pow_pos}
use Rattle.bitstream.specs.Stream.{bits, number, zeros, filling, filled}
use Rattle.bitstream.proofs.Laws.{number_bits, bits_number, bits_zero}
use Rattle.refusals.specs.declared.Refusal.TheVariants.{EndsInHeader}
use Rattle.refusals.specs.Reading.{got, refused}
use Rattle.settings.specs.declared.Image.{Image}
use Rattle.settings.specs.declared.Predictor.{Predictor}
use Rattle.settings.specs.declared.Coder.{Coder}
use Rattle.settings.specs.Tables.{every}
use Rattle.header.specs.Fields.{same}
use Rattle.header.specs.FieldLaws.{same_true, same_refl}
use Rattle.header.specs.Tables.{number_at}
use Rattle.header.specs.Read.{read_table, read_weights, read_accumulators}
use Rattle.header.specs.Sizes.{padded, weight_bits}
use Rattle.header.specs.SizeLaws.{cond_true}
use Rattle.header_values.proofs.Positions.{number_in_file}
use Rattle.header_reader.proofs.PlainLaws.{both}
use Rattle.header_reader.proofs.Answering.{PartSeen, missing, absent}

-- ---- a test of every number

tested : (test : ℕ → Bool) (n : ℕ) → list_all (λ b. b) (map test (range_with_len 0 n)) ≡ every n test
unfolding every
tested test zero = refl
tested test (suc n) =
    let last : map test (range_with_len 0 (suc n)) ≡ map test (range_with_len 0 n) ++ test n ∷ [] =
    ap (λ (k : ℕ). map test (range_with_len 0 k)) (sym (add-one n)) ∙ map-range_with_len_more test 0 n n (zero-add n) in
    ap (list_all (λ b. b)) last ∙ list_all-append (λ b. b) (map test (range_with_len 0 n)) (test n ∷ []) ∙ ap₂ (λ (x y : Bool). x && y) (tested test n) (and-true (test n))

pub every_listed : (test : ℕ → Bool) (n : ℕ) → list_all test (range_with_len 0 n) ≡ every n test
every_listed test n = sym (list_all-map (λ b. b) test (range_with_len 0 n)) ∙ tested test n

-- ---- the fill

same_behind : (a b c : List Bool) → same (a ++ b) (a ++ c) ≡ same b c
unfolding same
same_behind [] b c = refl
same_behind (true ∷ a) b c = same_behind a b c
same_behind (false ∷ a) b c = same_behind a b c

zeros_number : (f : ℕ) → number (zeros f) ≡ 0
zeros_number f = ap number (sym (bits_zero f)) ∙ number_bits f 0 ∙ mod-eq_of_lt (pow_pos f)

same_zeros : (b : List Bool) (f : ℕ) → length b ≡ f → same b (zeros f) ≡ eqb (number b) 0
same_zeros b f h =
    both _ _
    (λ e. eq-eqb (number b) 0 (ap number (same_true b (zeros f) e) ∙ zeros_number f))
    (λ e.
    let z : b ≡ zeros f = sym (bits_number b) ∙ ap₂ (λ (n v : ℕ). bits n v) h (eqb-true (number b) 0 e) ∙ bits_zero f in
    ap (λ (x : List Bool). same x (zeros f)) z ∙ same_refl (zeros f))

fill_same : (l : List Bool) (n : ℕ) → padded n ≤ length l → same (take (padded n) l) (filled 8 (take n l)) ≡ eqb (number (take (filling 8 n) (drop n l))) 0
unfolding filled
fill_same l n h =
    let k : length (take n l) ≡ n = length-take-le n l (omega arith) in
    let m : length (take (filling 8 n) (drop n l)) ≡ filling 8 n = length-take-le (filling 8 n) (drop n l) (rw length-drop (omega arith)) in
    ap₂ (λ (x : List Bool) (i : ℕ). same x (take n l ++ zeros (filling 8 i))) (take-add n (filling 8 n) l) k
    ∙ same_behind (take n l) (take (filling 8 n) (drop n l)) (zeros (filling 8 n)) ∙ same_zeros (take (filling 8 n) (drop n l)) (filling 8 n) m

-- ---- the table at a position of the file F

module _ (F : List Bool) (at n : ℕ) (test : List Bool → Bool) (from : at ≤ length F) (size : ℕ) (isSize : size ≡ padded n) (ends : Bool) (isEnd : ends ≡ ltb (length F) (at + size)) where
  there : ltb (length (drop at F)) (padded n) ≡ ends
  there = missing F at (padded n) (λ k. absurd (omega arith)) ∙ rw (← isSize, ← isEnd)

  pub table_absent : ends ≡ true → read_table n test (drop at F) ≡ refused EndsInHeader
  unfolding read_table
  table_absent e = absent (padded n) (drop at F) _ (there ∙ e)

  pub table_seen : (tested clear : Bool) → ends ≡ false → tested ≡ test (take n (drop at F)) → clear ≡ eqb (number (take (size - n) (drop (at + n) F))) 0
      → PartSeen (read_table n test (drop at F)) (padded n) (tested && clear) [] (take n (drop at F)) (drop at F)
  unfolding read_table
  table_seen tested clear e t k =
      let long : padded n ≤ length (drop at F) = ltb-false (length (drop at F)) (padded n) (there ∙ e) in
      let f : size - n ≡ filling 8 n = omega arith in
      record { there = there ∙ e; is = rw (fill_same (drop at F) n long, t, k, f, drop-drop n at F) }

-- ---- its entries

every_ext : (n : ℕ) (f g : ℕ → Bool) → ((i : ℕ) → i < n → f i ≡ g i) → every n f ≡ every n g
unfolding every
every_ext zero f g h = refl
every_ext (suc n) f g h = ap₂ (λ (x y : Bool). x && y) (every_ext n f g (λ i k. h i (omega arith))) (h n (omega arith))

-- the test of the entries, in the table and in the file
pub entries_in_file : (F : List Bool) (at nz d : ℕ) → 4 * nz ≤ length (drop at F)
    → every nz (λ z. leb (number (take 4 (drop (at + 4 * z) F))) d) ≡ every nz (λ z. leb (number_at 4 (take (4 * nz) (drop at F)) z) d)
entries_in_file F at nz d h =
    every_ext nz (λ z. leb (number (take 4 (drop (at + 4 * z) F))) d) (λ z. leb (number_at 4 (take (4 * nz) (drop at F)) z) d)
    (λ z k. ap (λ (x : ℕ). leb x d) (sym (number_in_file F at 4 (4 * nz) z (omega arith) h)))

-- ---- where there is one

pub weights_default : (I : Image) (P : Predictor) (l : List Bool) → P.custom ≡ false → read_weights I P l ≡ got [] l
unfolding read_weights
weights_default I P l e = rw e

pub weights_custom : (I : Image) (P : Predictor) (l : List Bool) (n : ℕ) → P.custom ≡ true → n ≡ weight_bits I P → read_weights I P l ≡ read_table n (λ table. true) l
unfolding read_weights
weights_custom I P l n e q = cond_true P.custom _ _ e ∙ ap (λ (k : ℕ). read_table k (λ table. true) l) (sym q)

pub accumulators_none : (I : Image) (C : Coder) (l : List Bool) → C.tabled ≡ false → read_accumulators I C l ≡ got [] l
unfolding read_accumulators
accumulators_none I C l e = rw e

pub accumulators_tabled : (I : Image) (C : Coder) (l : List Bool) → C.tabled ≡ true → read_accumulators I C l ≡ read_table (4 * I.nz) (λ table. every I.nz (λ z. leb (number_at 4 table z) (I.depth - 2))) l
unfolding read_accumulators
accumulators_tabled I C l e = cond_true C.tabled _ _ e

-- Fields written and split off again, and `same` as equality.
use Rattle.std.specs.Prelude.{◌≡◌, refl, Bool, true, false, List, [], ◌∷◌, ◌++◌, ℕ, zero, suc, ◌+◌, ◌%◌, ◌^◌, ◌≤◌, ◌<◌, length, take, drop, get_or}
use Rattle.std.proofs.Common.{sym, ap, ap₂, ◌∙◌, append_assoc, lt_of_lt_of_le, arith, length-append, length-take, length-drop, take-append-drop, take_at, drop_at, take-add, length-take-le, pow_mono}
use Rattle.std.specs.Bool.{beq}
use Rattle.std.proofs.Math.Bool.{and-eq-true_iff}
use Rattle.std.proofs.lemmas.Bool.{false≢true}
use Rattle.bitstream.specs.Stream.{bits, number}
use Rattle.bitstream.proofs.Laws.{length_bits, bits_low, number_bits, bits_number, number_lt}
use Rattle.header.specs.Fields.{Field, fields, split, same}

-- ---- the same bits

beq_true : (a b : Bool) → beq a b ≡ true → a ≡ b
beq_true true true e = refl
beq_true true false e = absurd (false≢true e)
beq_true false true e = absurd (false≢true e)
beq_true false false e = refl

pub same_true : (l m : List Bool) → same l m ≡ true → l ≡ m
unfolding same
same_true [] [] e = refl
same_true [] (b ∷ m) e = absurd (false≢true e)
same_true (a ∷ l) [] e = absurd (false≢true e)
same_true (a ∷ l) (b ∷ m) e =
    let k = (and-eq-true_iff (beq a b) (same l m)).0 e in
    ap₂ (λ (x : Bool) (y : List Bool). x ∷ y) (beq_true a b k.0) (same_true l m k.1)

pub same_refl : (l : List Bool) → same l l ≡ true
unfolding same
same_refl [] = refl
same_refl (true ∷ l) = same_refl l
same_refl (false ∷ l) = same_refl l

-- ---- what is split off the bits of fields

unfoldable pub widths : List Field → List ℕ
widths [] = []
widths (f ∷ fs) = f.width ∷ widths fs

unfoldable pub values : List Field → List ℕ
values [] = []
values (f ∷ fs) = f.value % 2 ^ f.width ∷ values fs

unfoldable pub total : List ℕ → ℕ
total [] = 0
total (w ∷ ws) = w + total ws

pub split_fields : (fs : List Field) (r : List Bool) → split (widths fs) (fields fs ++ r) ≡ values fs
unfolding widths values fields split
split_fields [] r = refl
split_fields (f ∷ fs) r =
    let b : List Bool = bits f.width f.value in
    rw (append_assoc b (fields fs) r, take_at b (fields fs ++ r) f.width (length_bits _ _), drop_at b (fields fs ++ r) f.width (length_bits _ _), number_bits, split_fields fs r)

pub length_fields : (fs : List Field) → length (fields fs) ≡ total (widths fs)
unfolding widths fields total
length_fields [] = refl
length_fields (f ∷ fs) = rw (length-append, length_bits, length_fields fs)

pub number_take_lt : (w : ℕ) (l : List Bool) → number (take w l) < 2 ^ w
number_take_lt w l = lt_of_lt_of_le (number_lt (take w l)) (pow_mono {i = length (take w l)} {j = w} (rw (length-take w l) (omega arith)))

-- numbers split off are as small as their fields
pub split_lt : (ws : List ℕ) (l : List Bool) (i : ℕ) → get_or (split ws l) i 0 < 2 ^ get_or ws i 0
unfolding split
split_lt [] l i = omega arith
split_lt (w ∷ ws) l zero = number_take_lt w l
split_lt (w ∷ ws) l (suc i) = split_lt ws (drop w l) i

-- ---- bits whose numbers are those of fields are the bits of these fields, and no others are

pub fields_split : (fs : List Field) (l : List Bool) → total (widths fs) ≤ length l → split (widths fs) l ≡ values fs → take (total (widths fs)) l ≡ fields fs
unfolding widths values fields split total
fields_split [] l h e = refl
fields_split (f ∷ fs) l h e =
    let w = f.width in
    let n : number (take w l) ≡ f.value % 2 ^ w = cc in
    let m : split (widths fs) (drop w l) ≡ values fs = cc in
    let k : length (take w l) ≡ w = length-take-le w l (omega arith) in
    let b : bits w (number (take w l)) ≡ take w l = rw k at (bits_number (take w l)) in
    rw (take-add w (total (widths fs)) l, ← b, n, bits_low w w f.value (omega arith), fields_split fs (drop w l) (rw (length-drop w l) (omega arith)) m)

pub split_same : (fs : List Field) (l : List Bool) → total (widths fs) ≤ length l → split (widths fs) l ≡ values fs → same (take (total (widths fs)) l) (fields fs) ≡ true
split_same fs l h e = rw (fields_split fs l h e) (same_refl (fields fs))

pub same_split : (fs : List Field) (l : List Bool) → same (take (total (widths fs)) l) (fields fs) ≡ true → split (widths fs) l ≡ values fs
same_split fs l e =
    let n = total (widths fs) in
    let s : l ≡ fields fs ++ drop n l = sym (take-append-drop n l) ∙ ap (λ (x : List Bool). x ++ drop n l) (same_true (take n l) (fields fs) e) in
    ap (split (widths fs)) s ∙ split_fields fs (drop n l)

-- Bits are the same as zeros exactly when their number is 0.
use Rattle.std.specs.Prelude.{Result, Ok, Err, ⊤}
use mathlib.Core.Path.{◌≡◌, refl, sym, ◌∙◌, ap, ap₂}
use mathlib.Core.Bool.{Bool, true, false, cond, not, ◌&&◌, beq}
use mathlib.Core.List.{List, [], ◌∷◌, ◌++◌}
use Prim.Native.Nat.{ℕ, zero, suc, ◌+◌, ◌-◌, ◌*◌, ◌/◌, ◌%◌, ◌^◌, ◌<◌, ◌≤◌}
use native.Mathlib.Nat.{zero-add, div-lt_iff_lt-mul}
use native.Mathlib.Omega.{arith}
use lib.Pow.{pow_pos, pow-add}
use lib.ListN.{length, take, drop, length-take, length-drop, take-append-drop}
use lib.Seq.{drop-drop}
use lib.Dec.{eqb}
use borrow.Author.Tests.{eqb-true, eqb-false, lt-ltb, le-ltb}
use Rattle.bitstream.specs.Stream.{bits, zeros, filling}
use Rattle.bitstream.proofs.Laws.{bits_zero, bits_inj, filling_whole}
use Rattle.bitstream.specs.Reader.{Sees}
use Rattle.header.specs.Fields.{same}
use Rattle.header.specs.FieldLaws.{same_true, same_refl}
use Rattle.closing.specs.Ending.{end_of}
use Rattle.closing.specs.declared.ending.WrongEnd.{WrongEnd}
use Rattle.closing.specs.declared.ending.WrongEnd.TheVariants.{TooShort, Behind}
use Rattle.bitstream.proofs.Laws.{whole_bytes}

-- the w bits of a number below 2^w
bits_same : (w v : ℕ) → v < 2 ^ w → eqb v 0 ≡ same (bits w v) (zeros w)
bits_same w v h = go (eqb v 0) refl (same (bits w v) (zeros w)) refl
  where
    go : (a : Bool) → eqb v 0 ≡ a → (b : Bool) → same (bits w v) (zeros w) ≡ b → a ≡ b
    go true e true k = refl
    go false e false k = refl
    go true e false k =
        let z : bits w v ≡ zeros w = ap (bits w) (eqb-true v 0 e) ∙ bits_zero w in
        sym (same_refl (zeros w)) ∙ ap (λ (l : List Bool). same l (zeros w)) (sym z) ∙ k
    go false e true k =
        let z : v ≡ 0 = bits_inj w v 0 h (pow_pos w) (same_true (bits w v) (zeros w) k ∙ sym (bits_zero w)) in
        absurd (eqb-false v 0 e z)

-- what a window shows of the next bits
pub window_same : (w x : ℕ) (R : List Bool) → w ≤ 57 → w ≤ length R → x < 2 ^ 64 → Sees 57 R x → eqb (x / 2 ^ (64 - w)) 0 ≡ same (take w R) (zeros w)
unfolding Sees
window_same w x R h l b s =
    let d : 64 ≡ w + (64 - w) = omega arith in
    let e : 2 ^ 64 ≡ 2 ^ w * 2 ^ (64 - w) = ap (λ (n : ℕ). 2 ^ n) d ∙ pow-add 2 w (64 - w) in
    let m : x / 2 ^ (64 - w) < 2 ^ w = (div-lt_iff_lt-mul (pow_pos (64 - w))).1 (omega arith) in
    bits_same w (x / 2 ^ (64 - w)) m ∙ ap (λ (y : List Bool). same y (zeros w)) (sym (s w h l))

-- ---- the end of a file of n bytes, in two halves of its fill

take_all : (n : ℕ) (l : List Bool) → length l ≡ n → take n l ≡ l
take_all n [] e = let z : n ≡ 0 = omega arith in rw z
take_all zero (b ∷ l) e = absurd (omega arith)
take_all (suc n) (b ∷ l) e = ap (λ (m : List Bool). b ∷ m) (take_all n l (omega arith))

and_assoc : (x y z : Bool) → (x && (y && z)) ≡ (x && y && z)
and_assoc true y z = refl
and_assoc false y z = refl

same_append : (a b : List Bool) (k : ℕ) → same (a ++ b) (zeros (length a + k)) ≡ (same a (zeros (length a)) && same b (zeros k))
unfolding same
same_append [] b k = ap (λ (n : ℕ). same b (zeros n)) (zero-add k)
same_append (x ∷ a) b k =
    let e : suc (length a) + k ≡ suc (length a + k) = omega arith in
    ap (λ (n : ℕ). same (x ∷ (a ++ b)) (zeros n)) e
    ∙ ap (λ (c : Bool). beq x false && c) (same_append a b k)
    ∙ and_assoc (beq x false) (same a (zeros (length a))) (same b (zeros k))

module _ (word end n : ℕ) (F : List Bool) (size : length F ≡ 8 * n) (inside : end ≤ length F) (some : 1 ≤ word) where
  abbrev fill : ℕ
  fill = filling (8 * word) end

  -- the file's end in bytes
  pub whole : 8 * ((end + fill) / 8) ≡ end + fill
  whole =
      let m : (end + fill) % (8 * word) ≡ 0 = filling_whole (8 * word) end (omega arith) in
      let k : (end + fill) % 8 ≡ 0 = whole_bytes word (end + fill) m in
      omega arith

  left : length (drop end F) ≡ 8 * n - end
  left = length-drop end F ∙ ap (λ (x : ℕ). x - end) size

  pub short_end : n < (end + fill) / 8 → Err TooShort ≡ end_of word end (drop end F)
  unfolding end_of
  short_end h = sym (rw (lt-ltb (length (drop end F)) fill (rw left (omega (arith, whole)))))

  pub long_end : (end + fill) / 8 < n → Err Behind ≡ end_of word end (drop end F)
  unfolding end_of
  long_end h =
      sym (rw (le-ltb (length (drop end F)) fill (rw left (omega (arith, whole))), lt-ltb fill (length (drop end F)) (rw left (omega (arith, whole)))))

  module _ (at-end : n ≡ (end + fill) / 8) where
    abbrev half : ℕ
    half = fill / 2

    exact : length (drop end F) ≡ fill
    exact = left ∙ (let w = whole in omega arith)

    halves : same (drop end F) (zeros fill) ≡ (same (take half (drop end F)) (zeros half) && same (take (fill - half) (drop (end + half) F)) (zeros (fill - half)))
    halves =
        let a : length (take half (drop end F)) ≡ half = length-take half (drop end F) ∙ (let x = exact in omega arith) in
        let b : drop half (drop end F) ≡ take (fill - half) (drop (end + half) F) =
        drop-drop half end F ∙ sym (take_all (fill - half) (drop (end + half) F) (length-drop (end + half) F ∙ (let w = whole in omega arith))) in
        let s : fill ≡ half + (fill - half) = omega arith in
        ap₂ (λ (l : List Bool) (k : ℕ). same l (zeros k)) (sym (take-append-drop half (drop end F))) (s ∙ ap (λ (x : ℕ). x + (fill - half)) (sym a))
        ∙ same_append (take half (drop end F)) (drop half (drop end F)) (fill - half)
        ∙ ap₂ (λ (k : ℕ) (l : List Bool). same (take half (drop end F)) (zeros k) && same l (zeros (fill - half))) a b

    decided : end_of word end (drop end F) ≡ cond (same (drop end F) (zeros fill)) (Ok tt) (Err Behind)
    unfolding end_of
    decided = rw (le-ltb (length (drop end F)) fill (omega (arith, exact)), le-ltb fill (length (drop end F)) (omega (arith, exact))) (go (same (drop end F) (zeros fill)))
      where
        go : (b : Bool) → ◌≡◌ {A = Result ⊤ WrongEnd} (cond (not b) (Err Behind) (Ok tt)) (cond b (Ok tt) (Err Behind))
        go true = refl
        go false = refl

    pub ends : (b c : Bool) → same (take half (drop end F)) (zeros half) ≡ b → same (take (fill - half) (drop (end + half) F)) (zeros (fill - half)) ≡ c
        → cond (b && c) (Ok tt) (Err Behind) ≡ end_of word end (drop end F)
    ends b c p q = sym (decided ∙ ap (λ (x : Bool). cond x (Ok tt) (Err Behind)) (halves ∙ ap₂ (λ (x y : Bool). x && y) p q))

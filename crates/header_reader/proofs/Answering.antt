-- A part is refused by the first of its tests that fails, and what was read stands at a position that the part's size gives.
use mathlib.Core.Path.{◌≡◌, sym, ap, ◌∙◌}
use mathlib.Core.Bool.{Bool, true, false, not, ◌&&◌, and-true}
use mathlib.Core.List.{List, [], ◌∷◌}
use Prim.Native.Nat.{ℕ, ◌+◌, ◌/◌, ◌≤◌, ◌<◌}
use native.Mathlib.Decide.{dec_le}
use native.Mathlib.Omega.{arith}
use borrow.Author.Tests.{ltb-false, lt-ltb, le-ltb, eq-eqb, ne_eqb}
use lib.Dec.{ltb, eqb}
use lib.ListN.{length, drop, length-drop}
use Rattle.bitstream.specs.Stream.{unpack}
use Rattle.bitstream.proofs.Laws.{length_unpack, absurd_path}
use Rattle.refusals.specs.declared.Refusal.{Refusal}
use Rattle.refusals.specs.declared.Refusal.TheVariants.{EndsInHeader, IllegalField, HouseLimit, BlockCoder}
use Rattle.refusals.specs.Tests.{Test, ◌⇒◌, first_hit}
use Rattle.refusals.specs.Reading.{Read, got, refused, unless}
use Rattle.refusals.specs.ReadingLaws.{no_test}
use Rattle.settings.specs.declared.Image.{Image}
use Rattle.settings.specs.declared.Predictor.{Predictor}
use Rattle.settings.specs.declared.Coder.{Coder}
use Rattle.settings.specs.Legal.{image_legal, predictor_legal, coder_legal, limited}
use Rattle.header.specs.Fields.{split}
use Rattle.header.specs.Places.{◌‼◌, coder_type}
use Rattle.header.specs.Parts.{image_widths, image_of, predictor_widths, predictor_of, coder_widths, coder_of, image_bits, predictor_bits, coder_bits}
use Rattle.header.specs.Plain.{image_plain, predictor_plain}
use Rattle.header.specs.Read.{present, read_image, read_predictor, read_coder}
use Rattle.header_reader.specs.Answers.{answered}
use Rattle.header_reader.proofs.PlainLaws.{image_plain_lem, predictor_plain_lem, coder_plain}

-- ---- the end of the file, in bytes and in bits

pub ends_as : (s : List ℕ) (end : ℕ) → ltb (length s) ((end + 7) / 8) ≡ ltb (length (unpack s)) end
ends_as s end = go (dec_le ((end + 7) / 8) (length s))
  where
    go : Dec ((end + 7) / 8 ≤ length s) → ltb (length s) ((end + 7) / 8) ≡ ltb (length (unpack s)) end
    go (yes k) = le-ltb (length s) ((end + 7) / 8) k ∙ sym (le-ltb (length (unpack s)) end (omega (arith, length_unpack s)))
    go (no k) = lt-ltb (length s) ((end + 7) / 8) (omega arith) ∙ sym (lt-ltb (length (unpack s)) end (omega (arith, length_unpack s)))

-- n bits are missing behind a position, or the file ends before the position behind them
pub missing : (F : List Bool) (at n : ℕ) → (length F < at → 0 < n) → ltb (length (drop at F)) n ≡ ltb (length F) (at + n)
missing F at n p = go (dec_le (at + n) (length F)) (dec_le at (length F))
  where
    go : Dec (at + n ≤ length F) → Dec (at ≤ length F) → ltb (length (drop at F)) n ≡ ltb (length F) (at + n)
    go (yes k) m = le-ltb (length (drop at F)) n (rw length-drop (omega arith)) ∙ sym (le-ltb (length F) (at + n) k)
    go (no k) (yes m) = lt-ltb (length (drop at F)) n (rw length-drop (omega arith)) ∙ sym (lt-ltb (length F) (at + n) (omega arith))
    go (no k) (no m) = lt-ltb (length (drop at F)) n (rw length-drop (omega (arith, p (omega arith)))) ∙ sym (lt-ltb (length F) (at + n) (omega arith))

-- ---- a part of n bits whose fields pass, and further tests

abbrev pub part_of : {A : Type 0} → ℕ → Bool → List Test → A → List Bool → Read A
part_of n passes ts a l = present n l (unless (first_hit (not passes ⇒ IllegalField ∷ ts)) (got a (drop n l)))

pub absent : {A : Type 0} (n : ℕ) (l : List Bool) (x : Read A) → ltb (length l) n ≡ true → present n l x ≡ refused EndsInHeader
unfolding first_hit
absent n l x e = rw e

-- x is such a part, and the file has it
pub record PartSeen {A : Type 0} (x : Read A) (n : ℕ) (passes : Bool) (ts : List Test) (a : A) (l : List Bool) : Type 0 where
  pub there : ltb (length l) n ≡ false
  pub is : x ≡ part_of n passes ts a l

module _ {A : Type 0} {x : Read A} {n : ℕ} {pass : Bool} {ts : List Test} {a : A} {l : List Bool} (s : PartSeen x n pass ts a l) where
  pub illegal : not pass ≡ true → x ≡ refused IllegalField
  unfolding first_hit
  illegal e = s.is ∙ rw (s.there, e)

  pub onwards : not pass ≡ false → x ≡ unless (first_hit ts) (got a (drop n l))
  unfolding first_hit
  onwards e = s.is ∙ rw (s.there, e)

-- a part without further tests
pub legal_part : {A : Type 0} {x : Read A} {n : ℕ} {pass : Bool} {a : A} {l : List Bool} → PartSeen x n pass [] a l → not pass ≡ false → x ≡ got a (drop n l)
legal_part s e = onwards s e ∙ no_test _

-- the image's further tests
module _ {x : Read Image} {pass : Bool} {kind : ℕ} {I : Image} {l : List Bool} (s : PartSeen x image_bits pass (eqb kind 1 ⇒ BlockCoder ∷ not (limited I) ⇒ HouseLimit ∷ []) I l) (e : not pass ≡ false) where
  pub block_coder : kind ≡ 1 → x ≡ refused BlockCoder
  unfolding first_hit
  block_coder q = onwards s e ∙ rw (eq-eqb kind 1 q)

  module _ (small : Bool) (isSmall : small ≡ limited I) (q : kind ≡ 1 → ⊥) where
    pub past_limit : not small ≡ true → x ≡ refused HouseLimit
    unfolding first_hit
    past_limit h = onwards s e ∙ rw (ne_eqb kind 1 q, ← isSmall, h)

    pub whole_image : not small ≡ false → x ≡ got I (drop image_bits l)
    unfolding first_hit
    whole_image h = onwards s e ∙ rw (ne_eqb kind 1 q, ← isSmall, h)

-- ---- the three parts as such

pub image_part : (l : List Bool) (v : List ℕ) (I : Image) (legal plain : Bool) → ltb (length l) image_bits ≡ false → v ≡ split image_widths l → I ≡ image_of v → legal ≡ image_legal I → plain ≡ image_plain v
    → PartSeen (read_image l) image_bits (legal && plain) (eqb (v ‼ coder_type) 1 ⇒ BlockCoder ∷ not (limited I) ⇒ HouseLimit ∷ []) I l
unfolding read_image
image_part l v I legal plain h e q b d = record { there = h; is = rw (b, d, q, e, image_plain_lem l (ltb-false (length l) image_bits h)) }

pub predictor_part : (I : Image) (l : List Bool) (v : List ℕ) (P : Predictor) (legal plain : Bool) → ltb (length l) predictor_bits ≡ false → v ≡ split predictor_widths l → P ≡ predictor_of v
    → legal ≡ predictor_legal I P → plain ≡ predictor_plain v → PartSeen (read_predictor I l) predictor_bits (legal && plain) [] P l
unfolding read_predictor
predictor_part I l v P legal plain h e q b d = record { there = h; is = rw (b, d, q, e, predictor_plain_lem I l (ltb-false (length l) predictor_bits h)) }

pub coder_part : (I : Image) (l : List Bool) (v : List ℕ) (C : Coder) (legal : Bool) → ltb (length l) coder_bits ≡ false → v ≡ split coder_widths l → C ≡ coder_of v
    → legal ≡ coder_legal I C → PartSeen (read_coder I l) coder_bits legal [] C l
unfolding read_coder
coder_part I l v C legal h e q b = record { there = h; is = rw (b, q, e, coder_plain l (ltb-false (length l) coder_bits h), and-true) }

-- ---- from an answer back to what was read

pub record Got {A : Type 0} (x : Read A) (a : A) : Type 0 where
  pub behind : List Bool
  pub is : x ≡ got a behind

-- two constructors that are one to one and apart say what was read
module _ {A B : Type 0} (value : A → B) (why : Refusal → B)
    (one : (a b : A) → value a ≡ value b → a ≡ b) (other : (r s : Refusal) → why r ≡ why s → r ≡ s) (apart : (a : A) (r : Refusal) → value a ≡ why r → ◌≡◌ {A = ℕ} 0 1) where
  pub was_got : (x : Read A) (a : A) → value a ≡ answered value why x → Got x a
  was_got (got b l) a q = record { behind = l; is = ap (λ (y : A). got y l) (sym (one a b q)) }
  was_got (refused w) a q = absurd_path (apart a w q)

  pub was_refused : (x : Read A) (w : Refusal) → why w ≡ answered value why x → x ≡ refused w
  was_refused (got b l) w q = absurd_path (apart b w (sym q))
  was_refused (refused s) w q = ap refused (sym (other w s q))

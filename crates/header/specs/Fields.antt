-- Fields of fixed width, the most significant bit first.
use Rattle.std.specs.Prelude.{Bool, true, false, cond, ◌&&◌, List, [], ◌∷◌, ◌++◌, ℕ, take, drop}
use Rattle.std.specs.Bool.{beq}
use Rattle.bitstream.specs.Stream.{bits, number}

-- a field's width and value; bits takes the value modulo 2^width, as the standard's tables do
pub record Field : Type 0 where
  pub width : ℕ
  pub value : ℕ

-- a field as it is written in lists
abbrev pub ◌∶◌ : ℕ → ℕ → Field
w ∶ v = record { width = w; value = v }

infix 90 ◌∶◌
-- fields in a row
unfoldable pub fields : List Field → List Bool
fields [] = []
fields (f ∷ fs) = bits f.width f.value ++ fields fs

-- the numbers of fields of these widths
unfoldable pub split : List ℕ → List Bool → List ℕ
split [] l = []
split (w ∷ ws) l = number (take w l) ∷ split ws (drop w l)

-- a flag as a number
abbrev pub flag : Bool → ℕ
flag b = cond b 1 0

-- the same bits
unfoldable pub same : List Bool → List Bool → Bool
same [] [] = true
same [] (b ∷ m) = false
same (a ∷ l) [] = false
same (a ∷ l) (b ∷ m) = beq a b && same l m

-- What stands behind the body, at bit `end` of a file, where words have so many bytes.
use Rattle.std.specs.Prelude.{Bool, cond, not, ◌||◌, List, ℕ, ◌*◌, length, ltb, Result, Ok, Err, ⊤}
use Rattle.bitstream.specs.Stream.{zeros, filling}
use Rattle.closing.specs.declared.ending.WrongEnd.TheVariants.{TooShort, Behind}
use Rattle.closing.specs.declared.ending.WrongEnd.{WrongEnd}
use Rattle.header.specs.Fields.{same}

-- what stands behind a body that ends at bit `end`: `l` is the rest of the file
unfoldable pub end_of : ℕ → ℕ → List Bool → Result ⊤ WrongEnd
end_of word end l =
    cond (ltb (length l) fill) (Err TooShort) (cond (ltb fill (length l) || not (same l (zeros fill))) (Err Behind) (Ok tt))
  where
    fill : ℕ
    fill = filling (8 * word) end

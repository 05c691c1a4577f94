-- The file: header, body and fill (5.2), and what packing answers.
use Rattle.std.specs.Prelude.{Bool, cond, List, ◌++◌, ℕ, ◌*◌, ℤ, length, ltb, Result, Ok, Err, ⊤}
use Rattle.bitstream.specs.Stream.{pack, filled}
use Rattle.refusals.specs.declared.Refusal.TheVariants.{NoRoom}
use Rattle.settings.specs.declared.Settings.{Settings}
use Rattle.settings.specs.Checks.{check_pack}
use Rattle.header.specs.Write.{header}
use Rattle.refusals.specs.declared.Refusal.{Refusal}
use Rattle.body.specs.Body.{body}

-- header and body, and zeros up to a multiple of B bytes (5.2.2, 5.4.3.2.3.5)
unfoldable pub file_bits : Settings → List ℤ → List ℤ → List Bool
file_bits S tables samples = filled (8 * S.image.word) (header S tables ++ body S tables samples)

-- its bytes
unfoldable pub file : Settings → List ℤ → List ℤ → List ℕ
file S tables samples = pack (file_bits S tables samples)

-- ---- what packing answers, with scratch of so many slots

-- the file's length, unless a test fails
unfoldable pub length_answer : Settings → List ℤ → List ℤ → ℕ → Result ℕ Refusal
length_answer S tables samples scratch = answered (check_pack S tables samples scratch)
  where
    answered : Result ⊤ Refusal → Result ℕ Refusal
    answered (Ok tt) = Ok (length (file S tables samples))
    answered (Err r) = Err r

-- into so many bytes
unfoldable pub packed : Settings → List ℤ → List ℤ → ℕ → ℕ → Result ℕ Refusal
packed S tables samples scratch room = fitted (length_answer S tables samples scratch)
  where
    fitted : Result ℕ Refusal → Result ℕ Refusal
    fitted (Ok n) = cond (ltb room n) (Err (NoRoom n)) (Ok n)
    fitted (Err r) = Err r

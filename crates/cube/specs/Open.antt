-- What opening answers for any bytes and any lent lengths: refusals in document 01's order, ranks from 0 in coding order.
use Rattle.std.specs.Prelude.{Bool, not, ◌||◌, List, [], ◌∷◌, ℕ, ◌-◌, ◌*◌, ℤ, pos, length, replicate, ltb}
use Rattle.bitstream.specs.Stream.{unpack, zeros, filling}
use Rattle.refusals.specs.declared.Refusal.TheVariants.{WrongCount, ShortArea, BodyEnds, AfterEnd}
use Rattle.refusals.specs.Tests.{◌⇒◌, first_hit}
use Rattle.refusals.specs.Reading.{Read, got, and_then, unless}
use Rattle.settings.specs.declared.Settings.{Settings}
use Rattle.settings.specs.Legal.{sample_count}
use Rattle.settings.specs.Checks.{areas_short}
use Rattle.header.specs.Fields.{same}
use Rattle.header.specs.Read.{Header, read_header}
use Rattle.body.specs.Order.{order}
use Rattle.body.specs.Body.{read_body}

-- an opened file: settings, table area and samples
pub record Cube : Type 0 where
  pub settings : Settings
  pub tables : List ℤ
  pub samples : List ℤ

-- behind the body, at bit `end`: the fill to a multiple of B bytes, and nothing else
unfoldable pub at_end : Header → ℕ → List ℤ → List Bool → Read Cube
at_end h end samples l =
    unless (first_hit
    (ltb (length l) fill ⇒ BodyEnds (sample_count h.settings.image)
    ∷ (ltb fill (length l) || not (same l (zeros fill))) ⇒ AfterEnd (sample_count h.settings.image)
    ∷ []))
    (got (record { settings = h.settings; tables = h.tables; samples = samples }) [])
  where
    fill : ℕ
    fill = filling (8 * h.settings.image.word) end

-- the slots lent: scratch, table area, image area
pub record Lent : Type 0 where
  pub scratch : ℕ
  pub tables : ℕ
  pub image : ℕ

-- behind the header of a file of `size` bits: memory enough, the body from an image of zeros, the end
unfoldable pub behind_header : Lent → ℕ → Header → List Bool → Read Cube
behind_header lent size h l =
    unless (first_hit
    (ltb lent.image (sample_count h.settings.image) ⇒ WrongCount
    ∷ areas_short h.settings lent.scratch lent.tables ⇒ ShortArea
    ∷ []))
    (and_then
    (read_body h.settings h.tables 0 (order h.settings.image) (replicate (sample_count h.settings.image) (pos 0)) l)
    (λ samples rest. at_end h (size - length rest) samples rest))

-- a file by its bits: the header, then what stands behind it
unfoldable pub opened_bits : Lent → List Bool → Read Cube
opened_bits lent l = and_then (read_header l) (behind_header lent (length l))

-- a file by its bytes
unfoldable pub opened : Lent → List ℕ → Read Cube
opened lent bytes = opened_bits lent (unpack bytes)

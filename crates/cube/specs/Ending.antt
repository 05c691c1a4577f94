-- What the end of a file makes of an opened one.
use Rattle.std.specs.Prelude.{◌≡◌, refl, Bool, true, false, cond, not, ◌||◌, List, [], ◌∷◌, ℕ, ◌*◌, ℤ, length, ltb, Result, Ok, Err, ⊤}
use Rattle.bitstream.specs.Stream.{zeros, filling}
use Rattle.refusals.specs.declared.Refusal.TheVariants.{BodyEnds, AfterEnd}
use Rattle.refusals.specs.Tests.{◌⇒◌, first_hit}
use Rattle.refusals.specs.Reading.{Read, got, refused, unless}
use Rattle.settings.specs.Legal.{sample_count}
use Rattle.header.specs.Fields.{same}
use Rattle.header.specs.Read.{Header}
use Rattle.cube.specs.Open.{Cube, at_end}
use Rattle.closing.specs.declared.ending.WrongEnd.TheVariants.{TooShort, Behind}
use Rattle.closing.specs.declared.ending.WrongEnd.{WrongEnd}
use Rattle.closing.specs.Ending.{end_of}

-- the answer for each ending
unfoldable pub ended : Header → List ℤ → Result ⊤ WrongEnd → Read Cube
ended h samples (Ok tt) = got (record { settings = h.settings; tables = h.tables; samples = samples }) []
ended h samples (Err TooShort) = refused (BodyEnds (sample_count h.settings.image))
ended h samples (Err Behind) = refused (AfterEnd (sample_count h.settings.image))

pub at_end_is : (h : Header) (end : ℕ) (samples : List ℤ) (l : List Bool) → at_end h end samples l ≡ ended h samples (end_of h.settings.image.word end l)
unfolding at_end end_of ended first_hit
at_end_is h end samples l = go (ltb (length l) fill) (ltb fill (length l) || not (same l (zeros fill)))
  where
    fill : ℕ
    fill = filling (8 * h.settings.image.word) end

    cube : Cube
    cube = record { settings = h.settings; tables = h.tables; samples = samples }

    go : (a b : Bool) → unless (first_hit (a ⇒ BodyEnds (sample_count h.settings.image) ∷ b ⇒ AfterEnd (sample_count h.settings.image) ∷ [])) (got cube []) ≡ ended h samples (cond a (Err TooShort) (cond b (Err Behind) (Ok tt)))
    go true b = refl
    go false true = refl
    go false false = refl

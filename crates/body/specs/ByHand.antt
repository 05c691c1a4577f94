-- The order of a small image worked by hand; the laws alone would let the sub-frames of a row change places with its columns.
use Rattle.std.specs.Prelude.{◌≡◌, refl, Bool, true, false, [], ◌∷◌, ℕ}
use Rattle.settings.specs.declared.Image.{Image}
use Rattle.settings.specs.Lists.{join}
use Rattle.body.specs.Order.{Place, column_of, row_of, band_sequential, sub_frames, frame_of, band_interleaved, order}

-- 2 × 2 × 3 in either order, with sub-frames of two bands
abbrev image : Bool → Image
image sequential = record { user = 0; nx = 2; ny = 2; nz = 3; signed = false; depth = 8; sequential = sequential; interleave = 2; word = 1 }

-- value t of band z
abbrev at : ℕ → ℕ → Place
at z t = record { z = z; t = t }

-- the places, row after row
pub record Worked : Type 0 where
  -- in each row bands 0 and 1 value by value, then band 2
  interleaved : order (image false)
      ≡ at 0 0 ∷ at 1 0 ∷ at 0 1 ∷ at 1 1 ∷ at 2 0 ∷ at 2 1
      ∷ at 0 2 ∷ at 1 2 ∷ at 0 3 ∷ at 1 3 ∷ at 2 2 ∷ at 2 3 ∷ []
  sequential : order (image true)
      ≡ at 0 0 ∷ at 0 1 ∷ at 0 2 ∷ at 0 3
      ∷ at 1 0 ∷ at 1 1 ∷ at 1 2 ∷ at 1 3
      ∷ at 2 0 ∷ at 2 1 ∷ at 2 2 ∷ at 2 3 ∷ []

pub worked : Worked
unfolding join column_of row_of band_sequential sub_frames frame_of band_interleaved order
worked = record { interleaved = refl; sequential = refl }

-- The encoding order as a list of places (5.4.2).
use Rattle.std.specs.Prelude.{cond, List, ℕ, ◌+◌, ◌-◌, ◌*◌, ◌/◌, min}
use Rattle.settings.specs.declared.Image.{Image}
use Rattle.settings.specs.Lists.{join, one}

-- value t of band z
pub record Place : Type 0 where
  pub z : ℕ
  pub t : ℕ

-- the bands z .. z + n − 1 at one t
unfoldable pub column_of : ℕ → ℕ → ℕ → List Place
column_of t z n = join (λ b. one (record { z = b; t = t })) z n

-- row y of the bands z .. z + n − 1: for each x, each band
unfoldable pub row_of : ℕ → ℕ → ℕ → ℕ → List Place
row_of nx y z n = join (λ x. column_of (y * nx + x) z n) 0 nx

-- z, y, x (5.4.2.3)
unfoldable pub band_sequential : ℕ → ℕ → ℕ → List Place
band_sequential nx ny nz = join (λ z. join (λ y. row_of nx y z 1) 0 ny) 0 nz

-- sub-frames of depth M in each frame (5.4.2.2)
unfoldable pub sub_frames : ℕ → ℕ → ℕ
sub_frames nz M = (nz + M - 1) / M

-- the sub-frames of frame y; the last of them may be smaller
unfoldable pub frame_of : ℕ → ℕ → ℕ → ℕ → List Place
frame_of nx nz M y = join (λ i. row_of nx y (i * M) (min M (nz - i * M))) 0 (sub_frames nz M)

-- y, sub-frame, x, z (5.4.2.2.3)
unfoldable pub band_interleaved : ℕ → ℕ → ℕ → ℕ → List Place
band_interleaved nx ny nz M = join (λ y. frame_of nx nz M y) 0 ny

-- the order that the settings name (5.4.2)
unfoldable pub order : Image → List Place
order I =
    cond I.sequential (band_sequential I.nx I.ny I.nz) (band_interleaved I.nx I.ny I.nz I.interleave)

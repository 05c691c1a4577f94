-- The coding order by rows: row n of the image, and its places.
use Rattle.std.specs.Prelude.{◌≡◌, cond, List, ℕ, ◌+◌, ◌-◌, ◌*◌, ◌/◌, ◌%◌, ◌<◌, ◌≤◌, min}
use Rattle.settings.specs.declared.Image.{Image}
use Rattle.settings.specs.Lists.{one}
use Rattle.body.specs.Order.{Place, column_of, row_of, sub_frames}
use Rattle.body_value.specs.declared.plan.Plan.{Plan}
use Rattle.body_value.specs.declared.Place as value
use Rattle.body_walk.specs.declared.rows.Row.{Row}

-- how many there are: a band's rows one after the other, or each frame's sub-frames
unfoldable pub row_count : Image → ℕ
row_count I = cond I.sequential (I.nz * I.ny) (I.ny * sub_frames I.nz I.interleave)

-- row n
unfoldable pub row_at : Image → ℕ → Row
row_at I n =
    cond I.sequential
    (record { y = n % I.ny; from = n / I.ny; to = n / I.ny + 1 })
    (record {
      y = n / sub_frames I.nz I.interleave;
      from = n % sub_frames I.nz I.interleave * I.interleave;
      to = n % sub_frames I.nz I.interleave * I.interleave + min I.interleave (I.nz - n % sub_frames I.nz I.interleave * I.interleave);
    })

-- ---- places

-- the value at one place
abbrev pub one_place : value.Place → List Place
one_place p = one (record { z = p.z; t = p.t })

-- the values at one place of the bands from that place's up to `to`
abbrev pub column_places : value.Place → ℕ → List Place
column_places p to = column_of p.t p.z (to - p.z)

-- the values of a row
abbrev pub row_places : Plan → Row → List Place
row_places P r = row_of P.settings.image.nx r.y r.from (r.to - r.from)

-- those of row n
unfoldable pub places_in : Image → ℕ → List Place
places_in I n = row_of I.nx (row_at I n).y (row_at I n).from ((row_at I n).to - (row_at I n).from)

-- a row of the image
pub record InRow (P : Plan) (r : Row) : Type 0 where
  pub y_in : r.y < P.settings.image.ny
  pub order : r.from ≤ r.to
  pub within : r.to ≤ P.settings.image.nz

-- a place of the image, and the bands from there up to one
pub record Strip (P : Plan) (p : value.Place) (to : ℕ) : Type 0 where
  pub order : p.z ≤ to
  pub within : to ≤ P.settings.image.nz
  pub place_in : p.t < P.settings.image.nx * P.settings.image.ny
  pub column_is : p.x ≡ p.t % P.settings.image.nx

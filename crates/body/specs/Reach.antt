-- Images that agree where a value, the bands up to one, or the rows up to one can look, and bodies that begin alike.
-- The laws are those of proofs/Reach.
use Rattle.std.specs.Prelude.{◌≡◌, Bool, ℤ}
use mathlib.Core.List.{List, ◌++◌}
use Prim.Native.Nat.{ℕ, suc, ◌*◌, ◌<◌, ◌≤◌}
use Rattle.settings.specs.declared.Settings.{Settings}
use Rattle.predictor.specs.Differences.{Image}
use Rattle.body.specs.Order.{Place}
use Rattle.body.specs.Body.{codes}

-- the images agree in bands 0 to z, at all of `area` places; above band z anything may stand
abbrev pub SameBands : ℕ → ℕ → Image → Image → Type 0
SameBands area z I J = (b t : ℕ) → b ≤ z → t < area → I b t ≡ J b t

-- the images agree in rows 0 to y of all nz bands; below row y anything may stand
abbrev pub SameRows : ℕ → ℕ → ℕ → Image → Image → Type 0
SameRows nx nz y I J = (b t : ℕ) → b < nz → t < nx * suc y → I b t ≡ J b t

-- the images agree wherever value t of band z looks
abbrev pub SameReach : ℕ → ℕ → Image → Image → Type 0
SameReach z t I J = (b i : ℕ) → b ≤ z → i ≤ t → I b i ≡ J b i

module _ (S : Settings) (wide : 0 < S.image.nx) (tables : List ℤ) (I J : Image) where
  -- both images' codes begin with the same bits
  pub record Begin (ps : List Place) (all : List Place) : Type 0 where
    pub rest : List Bool
    pub rest' : List Bool
    pub first : codes S tables I all ≡ codes S tables I ps ++ rest
    pub second : codes S tables J all ≡ codes S tables I ps ++ rest'

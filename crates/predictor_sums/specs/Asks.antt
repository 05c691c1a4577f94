-- What the functions of sums and differences ask of their callers.
use Rattle.std.specs.Prelude.{◌≡◌, Bool, true, false, List, [], ◌∷◌, ℕ, ◌+◌, ◌*◌, ◌^◌, ◌<◌, ◌≤◌, ℤ, pos, length, get_or}
use Rattle.predictor.specs.LocalSum as sums
use Rattle.predictor.specs.Differences.{difference}
use Rattle.predictor.specs.Each.{Each}
use Rattle.predictor.specs.Asks.{Sample}
use Rattle.predictor_sums.specs.Fetch.{Fetching, fetched}
use Rattle.predictor_sums.specs.declared.sums.Directions.{Directions}
use Rattle.predictor_sums.specs.declared.sums.Grid.{Grid}

-- the three differences in the order of their slots
abbrev pub directions_of : Directions → List ℤ
directions_of d = d.north ∷ d.west ∷ d.north_west ∷ []

-- place t > 0 of the band whose samples begin at base
pub record Window (samples : List ℤ) (base t nx : ℕ) : Type 0 where
  pub later : 0 < t
  pub wide : 0 < nx
  pub inside : base + t < length samples
  pub most : length samples ≤ 2 ^ 40

-- at width 1 sums go by columns
abbrev pub Narrow : ℕ → Bool → Type 0
Narrow nx column = nx ≡ 1 → column ≡ true

-- a sample and its neighbours, off two rows of samples
pub record Centre (above : List ℤ) (n : ℕ) (here : List ℤ) (i : ℕ) (p : sums.Position) : Type 0 where
  pub around : Fetching above n here i p
  pub inside : i < length here
  pub above_small : Each Sample above
  pub here_small : Each Sample here

-- the difference of a sample and the sum of its neighbours, off two rows of samples
abbrev pub centre : Bool → List ℤ → ℕ → List ℤ → ℕ → sums.Position → ℤ
centre column above n here i p = difference (get_or here i (pos 0)) (sums.local_sum column p (fetched above n here i p))

-- off the edges
abbrev pub inside : sums.Position
inside = record { first_row = false; first_column = false; last_column = false }

-- place t > 0 of the n bands before band z
pub record Below (samples : List ℤ) (n : ℕ) (g : Grid) (z t : ℕ) (p : sums.Position) : Type 0 where
  pub later : 0 < t
  pub wide : 0 < g.nx
  pub position_is : p ≡ sums.position_at g.nx t
  pub narrow : Narrow g.nx g.column
  pub small : Each Sample samples
  pub place_in : t < g.area
  pub few : n ≤ z
  pub most : length samples ≤ 2 ^ 40
  pub long : z * g.area ≤ length samples

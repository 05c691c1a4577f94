-- The neighbours that a position has, off two rows that may lie anywhere.
use Rattle.std.specs.Prelude.{◌≡◌, Bool, false, cond, ◌||◌, List, ℕ, ◌+◌, ◌-◌, ◌^◌, ◌<◌, ℤ, pos, length, get_or}
use Rattle.predictor.specs.LocalSum as sums
use Rattle.predictor_sums.specs.declared.neighbours.Neighbours.{Neighbours}
use Rattle.predictor_sums.specs.declared.neighbours.Position.{Position}

-- the code's neighbours as the definitions have them
abbrev pub neighbours_of : Neighbours → sums.Neighbours
neighbours_of n = record { north = n.north; west = n.west; north_west = n.north_west; north_east = n.north_east }

-- the code's position as the definitions have it
abbrev pub position_of : Position → sums.Position
position_of p = record { first_row = p.first_row; first_column = p.first_column; last_column = p.last_column }

-- a sample, or 0 beyond an edge
abbrev within : List ℤ → ℕ → Bool → ℤ
within l i beyond = cond beyond (pos 0) (get_or l i (pos 0))

-- the neighbours of sample i of `here`, below sample n of `above`
abbrev pub fetched : List ℤ → ℕ → List ℤ → ℕ → sums.Position → sums.Neighbours
fetched above n here i p =
    record {
      north = within above n p.first_row;
      west = within here (i - 1) p.first_column;
      north_west = within above (n - 1) (p.first_row || p.first_column);
      north_east = within above (n + 1) (p.first_row || p.last_column);
    }

-- the samples that the position has lie where they are fetched
pub record Fetching (above : List ℤ) (n : ℕ) (here : List ℤ) (i : ℕ) (p : sums.Position) : Type 0 where
  pub small : n < 2 ^ 40
  pub north_in : p.first_row ≡ false → n < length above
  pub west_in : p.first_column ≡ false → (0 < i) × (i - 1 < length here)
  pub north_west_in : (p.first_row || p.first_column) ≡ false → (0 < n) × (n - 1 < length above)
  pub north_east_in : (p.first_row || p.last_column) ≡ false → n + 1 < length above

-- The numbers that each call may give, and no other (document 01, "When the recorder says no").
use Rattle.std.specs.Prelude.{Bool, false, ◌||◌, List, [], ◌∷◌, ℕ, eqb}

-- n stands in the list
unfoldable pub among : List ℕ → ℕ → Bool
among [] n = false
among (m ∷ l) n = eqb n m || among l n

-- length: the writer's tests, without output
abbrev pub length_refuses : List ℕ
length_refuses = 1 ∷ 2 ∷ 3 ∷ 4 ∷ 5 ∷ []

-- pack: the same, and an output that is too short
abbrev pub pack_refuses : List ℕ
pack_refuses = 1 ∷ 2 ∷ 3 ∷ 4 ∷ 5 ∷ 6 ∷ []

-- open: the header's, what is lent, the body's
abbrev pub open_refuses : List ℕ
open_refuses = 3 ∷ 4 ∷ 5 ∷ 7 ∷ 8 ∷ 9 ∷ 10 ∷ 11 ∷ 12 ∷ []

-- look: the header's alone
abbrev pub look_refuses : List ℕ
look_refuses = 4 ∷ 7 ∷ 8 ∷ 12 ∷ []

-- Behind places the bands stand as behind one after the other.
use Rattle.std.specs.Prelude.{◌≡◌, List, [], ◌∷◌, ◌++◌, ℕ, refl}
use Rattle.body.specs.Order.{Place}
use Rattle.body_walk.specs.Standing.{bump, after, Along}

pub after_append : (f : ℕ → ℕ) (ps qs : List Place) → after f (ps ++ qs) ≡ after (after f ps) qs
after_append f [] qs = refl
after_append f (p ∷ ps) qs = after_append (bump f p) ps qs

pub along_front : (f : ℕ → ℕ) (ps qs : List Place) → Along f (ps ++ qs) → Along f ps
along_front f [] qs h = tt
along_front f (p ∷ ps) qs h = (h.0, along_front (bump f p) ps qs h.1)

pub along_behind : (f : ℕ → ℕ) (ps qs : List Place) → Along f (ps ++ qs) → Along (after f ps) qs
along_behind f [] qs h = h
along_behind f (p ∷ ps) qs h = along_behind (bump f p) ps qs h.1

pub along_join : (f : ℕ → ℕ) (ps qs : List Place) → Along f ps → Along (after f ps) qs → Along f (ps ++ qs)
along_join f [] qs h k = k
along_join f (p ∷ ps) qs h k = (h.0, along_join (bump f p) ps qs h.1 k)

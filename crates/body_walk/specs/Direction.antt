-- A walk over places in parts: what a direction of it asks, and what it says of them.
use Rattle.std.specs.Prelude.{List, [], ◌++◌, ℤ}
use Rattle.body.specs.Order.{Place}

-- where a walk stands: the bands' slots, what it fills, and its position in the file
pub record State (Item At : Type 0) : Type 0 where
  pub scratch : List ℤ
  pub filled : List Item
  pub at : At

abbrev pub state_at : {Item At : Type 0} → List ℤ → List Item → At → State Item At
state_at scratch filled at = record { scratch = scratch; filled = filled; at = at }

-- Part s ps s': from s the walk over ps leads to s'. Ready s ps: it may be walked. Stop s ps r: it stops within ps because of r, whatever comes behind.
pub record WalkLaws {S Reason : Type 0} (Ready : S → List Place → Type 0) (Part : S → List Place → S → Type 0) (Stop : S → List Place → Reason → Type 0) : Type 0 where
  pub none : {s : S} {ps : List Place} → Ready s ps → Part s [] s
  pub then : {s s' s'' : S} {ps qs : List Place} → Part s ps s' → Part s' qs s'' → Part s (ps ++ qs) s''
  pub go_on : {s s' : S} {ps : List Place} (qs rs : List Place) → Ready s (ps ++ (qs ++ rs)) → Part s ps s' → Ready s' qs
  pub behind : {s s' : S} {ps qs : List Place} {r : Reason} (rs : List Place) → Part s ps s' → Stop s' qs r → Stop s (ps ++ (qs ++ rs)) r

-- Tests in order, the first that fails decides (document 01, "Writer's order", "Reader's").
use Rattle.std.specs.Prelude.{Bool, cond, List, [], ◌∷◌, Result, Ok, Err, ⊤}
use Rattle.refusals.specs.declared.Refusal.{Refusal}

-- a condition, and the refusal it stands for
pub record Test : Type 0 where
  pub fails : Bool
  pub refusal : Refusal

-- a test as it is written in lists
abbrev pub ◌⇒◌ : Bool → Refusal → Test
b ⇒ r = record { fails = b; refusal = r }

infix 90 ◌⇒◌
-- the first test that fails decides
unfoldable pub first_hit : List Test → Result ⊤ Refusal
first_hit [] = (Ok tt)
first_hit (t ∷ ts) = cond t.fails (Err t.refusal) (first_hit ts)

-- A list of tests passes exactly where none of them fails.
use Rattle.std.specs.Prelude.{◌≡◌, refl, Bool, true, false, cond, List, [], ◌∷◌, ℕ, Result, Ok, Err, ⊤}
use Rattle.std.proofs.Common.{arith}
use Rattle.refusals.specs.declared.Refusal.{Refusal}
use Rattle.refusals.specs.Tests.{Test, first_hit}

abbrev pub NoneFails : List Test → Type 0
NoneFails [] = Unit
NoneFails (t ∷ ts) = (t.fails ≡ false) × NoneFails ts

pub none_hits : (ts : List Test) → NoneFails ts → first_hit ts ≡ (Ok tt)
unfolding first_hit
none_hits [] h = refl
none_hits (t ∷ ts) h = rw h.0 (none_hits ts h.1)

-- a test that lets the rest decide did not fail
first_fine : (b : Bool) (r : Refusal) (x : Result ⊤ Refusal) → cond b (Err r) x ≡ (Ok tt) → (b ≡ false) × (x ≡ (Ok tt))
first_fine true r x e = let z : ◌≡◌ {A = ℕ} 0 1 = cc in absurd (omega arith)
first_fine false r x e = (refl, e)

pub passes_all : (ts : List Test) → first_hit ts ≡ (Ok tt) → NoneFails ts
unfolding first_hit
passes_all [] e = tt
passes_all (t ∷ ts) e = let h = first_fine t.fails t.refusal (first_hit ts) e in (h.0, passes_all ts h.1)

-- `contains` of a range of two ends is the test `between`.
use Rattle.std.specs.Prelude.{◌≡◌, refl, Bool, false, ℕ, leb}
use Rattle.std.proofs.Common.{◌∙◌, Some, rules}
use Rattle.std.specs.Ordering.{nat_cmp, partial_le}
use Rattle.std.specs.Range.{range_inclusive_contains, range_inclusive_start, range_inclusive_end, range_inclusive_exhausted}
use Rattle.settings.specs.Legal.{between}

le_is : (a b : ℕ) → partial_le (λ x y. Some (nat_cmp x y)) a b ≡ leb a b
le_is a b = search rules

-- by what `a..=b` and `contains` ensure
pub tested : {s : _} {a b : ℕ} (x : ℕ) {r : Bool} → range_inclusive_start s ≡ a → range_inclusive_end s ≡ b → range_inclusive_exhausted s ≡ false → r ≡ range_inclusive_contains (λ x y. Some (nat_cmp x y)) s x → r ≡ between a b x
tested {s} {a} {b} x p q e h = h ∙ rw (p, q, e, le_is a x, le_is x b) refl

-- A loop that stores one value from the front on: the front is that value, the rest as it was. Stated for any elements.
use mathlib.Core.Path.{◌≡◌, refl, sym, ap, subst}
use mathlib.Core.List.{List, [], ◌∷◌, ◌++◌}
use Prim.Native.Nat.{ℕ, zero, suc, ◌+◌, ◌<◌}
use native.Mathlib.Nat.{not-suc-le-zero, le_of_suc-le-suc}
use native.Mathlib.Numerals.{add-one}
use lib.ListN.{length, set, drop, replicate}

one_more : {A : Type 0} (n : ℕ) (v : A) (d : List A) → n < length d → set (replicate n v ++ drop n d) n v ≡ replicate (suc n) v ++ drop (suc n) d
one_more n v [] l = absurd (not-suc-le-zero l)
one_more zero v (x ∷ d) l = refl
one_more (suc n) v (x ∷ d) l = ap (λ (t : List _). v ∷ t) (one_more n v d (le_of_suc-le-suc l))

pub fill_more : {A : Type 0} (n : ℕ) (v : A) (d : List A) → n < length d → set (replicate n v ++ drop n d) n v ≡ replicate (n + 1) v ++ drop (n + 1) d
fill_more n v d l = subst (λ (k : ℕ). set (replicate n v ++ drop n d) n v ≡ replicate k v ++ drop k d) (sym (add-one n)) (one_more n v d l)

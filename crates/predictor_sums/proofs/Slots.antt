-- Lists that stores make slot by slot.
use Rattle.std.proofs.Common.{◌≡◌, sym, ◌∙◌, Bool, List, ℕ, zero, suc, ◌-◌, ◌<◌, ℤ, pos, length, get_or, arith}
use Rattle.std.proofs.lemmas.List.{ext_get_or}
use Rattle.predictor.specs.Differences.{Image, central_at, centrals_at}
use Rattle.predictor.specs.Lengths.{centrals_at_length}

module _ (n : ℕ) (column : Bool) (I : Image) where
  centrals_at_lem : (m z t k : ℕ) → k < m → get_or (centrals_at n column I m z t) k (pos 0) ≡ central_at n column (I (z - 1 - k)) t
  unfolding centrals_at
  centrals_at_lem zero z t k p = absurd (omega arith)
  centrals_at_lem (suc m) z t zero p = let e : z - 1 - 0 ≡ z - 1 = omega arith in rw e
  centrals_at_lem (suc m) z t (suc k) p = let e : z - 1 - suc k ≡ z - 1 - 1 - k = omega arith in rw e (centrals_at_lem m (z - 1) t k (omega arith))

  pub centrals_are : (m z t : ℕ) (us : List ℤ) → length us ≡ m
      → ((k : ℕ) → k < m → get_or us k (pos 0) ≡ central_at n column (I (z - 1 - k)) t) → us ≡ centrals_at n column I m z t
  centrals_are m z t us l h =
      ext_get_or (pos 0) us (centrals_at n column I m z t) (l ∙ sym (centrals_at_length n column I m z t))
      (λ k p. h k (omega arith) ∙ sym (centrals_at_lem m z t k (omega arith)))

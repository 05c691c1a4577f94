-- k from leading zeros: the sum is some bits longer than Γ, and k is that number or one less. Not the standard's: it names no way to find k.
use Rattle.std.specs.Prelude.{◌≡◌, Bool, true, false, leb}
use Rattle.std.proofs.Math.Path.{refl}
use Prim.Native.Nat.{ℕ, zero, suc, ◌+◌, ◌-◌, ◌*◌, ◌^◌, ◌<◌, ◌≤◌, min}
use Rattle.std.proofs.Math.Nat.{mul-le-mul_right}
use Rattle.std.proofs.Math.Decide.{dec_le, ℕ_discrete}
use native.Mathlib.Omega.{arith}
use Rattle.std.specs.Int.Count.{count_leading_zeros, leading_top, leading_length}
use Rattle.std.proofs.Common.{pow_mono, shl_lt, leb-true, leb-false}
use Rattle.std.proofs.Math.Pow.{pow-add}
use Rattle.coder.specs.Statistics.{largest}
use Rattle.coder.specs.StatisticsLaws.{largest_most}

-- the candidate for the largest k ≤ n with c·2^k ≤ a, off the leading zeros of both in words of w bits
unfoldable pub candidate : ℕ → ℕ → ℕ → ℕ → ℕ
candidate w n c a = min n (count_leading_zeros w c - count_leading_zeros w a)

-- it is in the range, and Γ shifted by it stays in its word
pub candidate_fits : (w n c a : ℕ) → (candidate w n c a ≤ n) × (candidate w n c a ≤ count_leading_zeros w c)
unfolding candidate
candidate_fits w n c a = (omega arith, omega arith)

-- ---- what makes k the largest

pub largest_holds : (n c a : ℕ) → 0 < largest n c a → c * 2 ^ largest n c a ≤ a
unfolding largest
largest_holds zero c a h = absurd (omega arith)
largest_holds (suc n) c a h = go (largest_holds n c a) (leb (c * 2 ^ suc n) a) refl h
  where
    go : (0 < largest n c a → c * 2 ^ largest n c a ≤ a) → (b : Bool) → leb (c * 2 ^ suc n) a ≡ b → 0 < elim b as (λ _. ℕ) [ true ↦ suc n | false ↦ largest n c a ]
        → c * 2 ^ elim b as (λ _. ℕ) [ true ↦ suc n | false ↦ largest n c a ] ≤ a
    go ih true e h = leb-true (c * 2 ^ suc n) a e
    go ih false e h = ih h

pub largest_least : (n c a k : ℕ) → k ≤ n → c * 2 ^ k ≤ a → k ≤ largest n c a
unfolding largest
largest_least zero c a k h f = h
largest_least (suc n) c a k h f = go (λ l. largest_least n c a k l f) (leb (c * 2 ^ suc n) a) refl
  where
    go : (k ≤ n → k ≤ largest n c a) → (b : Bool) → leb (c * 2 ^ suc n) a ≡ b → k ≤ elim b as (λ _. ℕ) [ true ↦ suc n | false ↦ largest n c a ]
    go ih true e = h
    go ih false e = pick (ℕ_discrete k (suc n))
      where
        pick : Dec (k ≡ suc n) → k ≤ largest n c a
        pick (yes q) = let l = leb-false (c * 2 ^ suc n) a e in let u : c * 2 ^ suc n ≤ a = rw q at f in absurd (omega arith)
        pick (no q) = ih (omega arith)

-- ---- the law, for words of every width

-- the smaller of two powers of two has the smaller exponent
pub exponent_lt : (i j : ℕ) → 2 ^ i < 2 ^ j → i < j
exponent_lt i j h = pick (dec_le j i)
  where
    pick : Dec (j ≤ i) → i < j
    pick (yes l) = let m = pow_mono l in absurd (omega arith)
    pick (no l) = omega arith

module _ (w n c a : ℕ) (some : 0 < c) (c-fits : c < 2 ^ w) (a-fits : a < 2 ^ w) where
  -- c·2^k has k bits more than c, so a has no fewer
  pub candidate_most : largest n c a ≤ candidate w n c a
  unfolding candidate
  candidate_most = pick (largest n c a) refl
    where
      pick : (k : ℕ) → largest n c a ≡ k → k ≤ min n (count_leading_zeros w c - count_leading_zeros w a)
      pick zero e = omega arith
      pick (suc k) e =
          let c-top = leading_top w c some c-fits in
          let a-length = leading_length w a a-fits in
          let holds : c * 2 ^ suc k ≤ a = rw e at (largest_holds n c a (rw e (omega arith))) in
          let lower : 2 ^ c-top.0 * 2 ^ suc k ≤ c * 2 ^ suc k = mul-le-mul_right (2 ^ suc k) c-top.2 in
          let joined = pow-add 2 c-top.0 (suc k) in
          let longer = exponent_lt (c-top.0 + suc k) a-length.0 (omega (arith, a-length.2)) in
          let most = largest_most n c a in
          omega (arith, c-top.1, a-length.1)

  -- a is below c·2^(k + 1), so it has no more bits than that
  pub candidate_least : candidate w n c a ≤ largest n c a + 1
  unfolding candidate
  candidate_least = pick (dec_le n k)
    where
      k : ℕ
      k = largest n c a

      over : k < n → Dec (c * 2 ^ (k + 1) ≤ a) → a < c * 2 ^ (k + 1)
      over h (yes l) = absurd (omega (arith, largest_least n c a (k + 1) (omega arith) l))
      over h (no l) = omega arith

      pick : Dec (n ≤ k) → min n (count_leading_zeros w c - count_leading_zeros w a) ≤ k + 1
      pick (yes h) = omega arith
      pick (no h) =
          let c-top = leading_top w c some c-fits in
          let a-length = leading_length w a a-fits in
          let length : ℕ = suc c-top.0 + (k + 1) in
          let below : a < c * 2 ^ (k + 1) = over (omega arith) (dec_le (c * 2 ^ (k + 1)) a) in
          let upper : c * 2 ^ (k + 1) < 2 ^ length = shl_lt (suc c-top.0) (k + 1) c-top.3 in
          let joined : 2 ^ (length + 1) ≡ 2 ^ length * 2 = pow-add 2 length 1 in
          let shorter = exponent_lt a-length.0 (length + 1) (omega (arith, a-length.3)) in
          omega (arith, c-top.1, a-length.1)

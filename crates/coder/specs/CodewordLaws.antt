-- A codeword is read back, and what is read is the one codeword of its value. Assumes nothing.
use Rattle.std.specs.Prelude.{◌≡◌, Bool, ℕ, zero, suc, ◌+◌, ◌*◌, ◌/◌, ◌^◌, ◌≤◌, ◌<◌}
use Rattle.std.proofs.Math.Path.{refl}
use Rattle.std.proofs.Common.{sym, ap, ◌∙◌, le_refl, le_of_suc-le-suc, arith, length-append}
use Rattle.std.proofs.Math.Bool.{true, false, cond}
use mathlib.Core.List.{List, [], ◌∷◌, ◌++◌, append_assoc}
use Rattle.std.proofs.Math.Nat.{mod-eq_of_lt}
use borrow.Author.Tests.{lt-ltb, ltb-true}
use Rattle.std.proofs.Math.Dec.{ltb}
use Rattle.std.proofs.Math.Pow.{split, high, low}
use Rattle.std.proofs.Math.ListN.{length, length-replicate}
use Rattle.bitstream.specs.Stream.{bits, zeros, Parsed, ok, short, bad, field}
use Rattle.bitstream.proofs.Laws.{length_bits, bits_low, field_bits, field_ok, absurd_path}
use Rattle.coder.specs.Codeword.{codeword, Run, one, full, out, longer, run, and_then, plain, escaped, behind, parse}

-- ---- the zeros ahead

pub run_one : (m u : ℕ) (l : List Bool) → u < m → run m (zeros u ++ true ∷ l) ≡ one u l
unfolding run
run_one zero u l h = absurd (omega arith)
run_one (suc m) zero l h = refl
run_one (suc m) (suc u) l h = ap longer (run_one m u l (le_of_suc-le-suc h))

pub run_full : (m : ℕ) (l : List Bool) → run m (zeros m ++ l) ≡ full l
unfolding run
run_full zero l = refl
run_full (suc m) l = ap longer (run_full m l)

pub run_out : (m c : ℕ) → c < m → run m (zeros c) ≡ out
unfolding run
run_out zero c h = absurd (omega arith)
run_out (suc m) zero h = refl
run_out (suc m) (suc c) h = ap longer (run_out m c (le_of_suc-le-suc h))

abbrev One : ℕ → List Bool → ℕ → List Bool → Type 0
One m l u r = (l ≡ zeros u ++ true ∷ r) × (u < m)

one_more : (m : ℕ) (l : List Bool) (u : ℕ) (r : List Bool) (x : Run) → longer x ≡ one u r
    → ((v : ℕ) → x ≡ one v r → One m l v r) → One (suc m) (false ∷ l) u r
one_more m l u r (one v s) e ih =
    let q : suc v ≡ u = cc in
    let h = ih v (ap (one v) (cc)) in
    rw (← q) (rw h.0, omega (arith, h.1))
one_more m l u r (full s) e ih = absurd_path (cc)
one_more m l u r out e ih = absurd_path (cc)

one_run : (m : ℕ) (l : List Bool) (u : ℕ) (r : List Bool) → run m l ≡ one u r → One m l u r
unfolding run
one_run zero l u r e = absurd_path (cc)
one_run (suc m) [] u r e = absurd_path (cc)
one_run (suc m) (true ∷ l) u r e =
    let q : 0 ≡ u = cc in
    let s : l ≡ r = cc in
    rw (← q, s) (refl, omega arith)
one_run (suc m) (false ∷ l) u r e = one_more m l u r (run m l) e (λ v. one_run m l v r)

full_run : (m : ℕ) (l r : List Bool) → run m l ≡ full r → l ≡ zeros m ++ r
unfolding run
full_run zero l r e = cc
full_run (suc m) [] r e = absurd_path (cc)
full_run (suc m) (true ∷ l) r e = absurd_path (cc)
full_run (suc m) (false ∷ l) r e = ap (λ (x : List Bool). false ∷ x) (full_run m l r (go (run m l) e))
  where
    go : (x : Run) → longer x ≡ full r → x ≡ full r
    go (one v s) q = absurd_path (cc)
    go (full s) q = q
    go out q = q

-- ---- codewords

module _ (depth limit k : ℕ) where
  -- a codeword is read back
  pub parse_codeword : (n : ℕ) (r : List Bool) → n < 2 ^ depth → parse depth limit k (codeword depth limit k n ++ r) ≡ ok n r
  unfolding parse codeword
  parse_codeword n r h = go (ltb (n / 2 ^ k) limit) refl
    where
      go : (t : Bool) → ltb (n / 2 ^ k) limit ≡ t
          → behind depth limit k (run limit (cond t (zeros (n / 2 ^ k) ++ true ∷ bits k n) (zeros limit ++ bits depth n) ++ r)) ≡ ok n r
      go true e =
          rw (append_assoc, run_one limit (n / 2 ^ k) (bits k n ++ r) (ltb-true (n / 2 ^ k) limit e), field_bits, split n k, lt-ltb n (2 ^ depth) h)
      go false e =
          rw (append_assoc, run_full limit (bits depth n ++ r), field_bits, mod-eq_of_lt h, e)

  under : (u v : ℕ) → v < 2 ^ k → bits k (u * 2 ^ k + v) ≡ bits k v
  under u v h = sym (bits_low k k (u * 2 ^ k + v) (le_refl k)) ∙ ap (bits k) (low u k h)

  -- what is read is a codeword, and the only one of its value
  pub codeword_parse : (l : List Bool) (n : ℕ) (r : List Bool) → parse depth limit k l ≡ ok n r → (l ≡ codeword depth limit k n ++ r) × (n < 2 ^ depth)
  unfolding parse codeword
  codeword_parse l n r = go (run limit l) refl
    where
      small : (u v : ℕ) (s : List Bool) (t : Bool) → ltb (u * 2 ^ k + v) (2 ^ depth) ≡ t → run limit l ≡ one u (bits k v ++ s) → v < 2 ^ k
          → cond t (ok (u * 2 ^ k + v) s) bad ≡ ok n r → (l ≡ codeword depth limit k n ++ r) × (n < 2 ^ depth)
      small u v s true e q h p =
          let a : u * 2 ^ k + v ≡ n = cc in
          let b : s ≡ r = cc in
          let o = one_run limit l u (bits k v ++ s) q in
          rw (← a, ← b) (rw (high u k h, lt-ltb u limit o.1, under u v h, append_assoc) o.0, ltb-true (u * 2 ^ k + v) (2 ^ depth) e)
      small u v s false e q h p = absurd_path (cc)

      one_field : (u : ℕ) (s : List Bool) (f : Parsed) → field k s ≡ f → run limit l ≡ one u s → and_then f (λ v r. plain depth (u * 2 ^ k + v) r) ≡ ok n r
          → (l ≡ codeword depth limit k n ++ r) × (n < 2 ^ depth)
      one_field u s (ok v t) e q p = let o = field_ok k s v t e in small u v t (ltb (u * 2 ^ k + v) (2 ^ depth)) refl (rw o.0 at q) o.1 p
      one_field u s short e q p = absurd_path (cc)
      one_field u s bad e q p = absurd_path (cc)

      large : (v : ℕ) (s : List Bool) (t : Bool) → ltb (v / 2 ^ k) limit ≡ t → run limit l ≡ full (bits depth v ++ s) → v < 2 ^ depth
          → cond t bad (ok v s) ≡ ok n r → (l ≡ codeword depth limit k n ++ r) × (n < 2 ^ depth)
      large v s true e q h p = absurd_path (cc)
      large v s false e q h p =
          let a : v ≡ n = cc in
          let b : s ≡ r = cc in
          rw (← a, ← b) (rw (e, append_assoc) (full_run limit l (bits depth v ++ s) q), h)

      full_field : (s : List Bool) (f : Parsed) → field depth s ≡ f → run limit l ≡ full s → and_then f (λ v r. escaped limit k v r) ≡ ok n r
          → (l ≡ codeword depth limit k n ++ r) × (n < 2 ^ depth)
      full_field s (ok v t) e q p = let o = field_ok depth s v t e in large v t (ltb (v / 2 ^ k) limit) refl (rw o.0 at q) o.1 p
      full_field s short e q p = absurd_path (cc)
      full_field s bad e q p = absurd_path (cc)

      go : (x : Run) → run limit l ≡ x → behind depth limit k x ≡ ok n r → (l ≡ codeword depth limit k n ++ r) × (n < 2 ^ depth)
      go (one u s) e p = one_field u s (field k s) refl e p
      go (full s) e p = full_field s (field depth s) refl e p
      go out e p = absurd_path (cc)

  -- the standard's note in 5.4.3.2.3.1
  pub length_codeword : (n : ℕ) → k ≤ depth → length (codeword depth limit k n) ≤ limit + depth
  unfolding codeword
  length_codeword n h = go (ltb (n / 2 ^ k) limit) refl
    where
      go : (t : Bool) → ltb (n / 2 ^ k) limit ≡ t
          → length (cond t (zeros (n / 2 ^ k) ++ true ∷ bits k n) (zeros limit ++ bits depth n)) ≤ limit + depth
      go true e = rw (length-append, length-replicate, length_bits) (omega (arith, ltb-true (n / 2 ^ k) limit e))
      go false e = rw (length-append, length-replicate, length_bits) (omega arith)

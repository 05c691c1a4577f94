-- Numbers that change sign on their way to a field or from it: 32 bits hold them.
use mathlib.Core.Path.{◌≡◌, sym, ap, ◌∙◌}
use mathlib.Core.Bool.{true}
use Prim.Native.Nat.{ℕ, zero, suc, ◌+◌, ◌-◌, ◌*◌, ◌%◌, ◌^◌, ◌≤◌, ◌<◌}
use Rattle.std.proofs.lemmas.Int.{fits_signed_from_abs}
use Rattle.std.proofs.lemmas.Nat.{pow-add, mod-mul-add}
use native.Mathlib.Nat.{mod-eq_of_lt, suc-mul}
use mathlib.Core.Path.{subst}
use lib.Pow.{pow_pos}
use native.Mathlib.Decide.{dec_le}
use native.Mathlib.Omega.{arith}
use borrow.Author.Tests.{lt-ltb, le-ltb}
use lib.Dec.{T}
use lib.Pow.{pow_mono}
use lib.Signed.{◌≤ℤ◌, non_neg}
use lib.IntN.{ℤ, pos, negsuc, nat_abs, ◌+ℤ◌, ◌-ℤ◌}
use mir.Syntax.{w32}
use mir.Val.{SFits, to_z, of_z}
use mir.Facts.{to_z_pos, to_z-of_z}
use Rattle.settings.specs.Tables.{weight_legal, accumulator_legal}
use Rattle.settings.specs.TableLaws.{legal_weight, legal_accumulator}
use Rattle.header.specs.PartLaws.{raised}
use Rattle.header.specs.Tables.{twos}
use Rattle.header.specs.TableLaws.{twos_lt}

-- v − 6 for a field of four bits
pub record Lowered (v : ℕ) : Type 0 where
  pub fits : SFits w32 (to_z w32 v -ℤ pos 6)
  pub is : to_z w32 (of_z w32 (to_z w32 v -ℤ pos 6)) ≡ pos v -ℤ pos 6

lowered_fits : (v : ℕ) → v < 16 → Dec (6 ≤ v) → SFits w32 (pos v -ℤ pos 6)
lowered_fits v h (yes k) = rw (le-ltb v 6 k) (record { sfits = omega arith })
lowered_fits v h (no k) = rw (lt-ltb v 6 (omega arith)) (record { sfits = omega arith })

pub lowered : (v : ℕ) → v < 16 → Lowered v
lowered v h =
    let f = lowered_fits v h (dec_le 6 v) in
    let m : v < 2 ^ 31 = omega arith in
    record { fits = rw (to_z_pos w32 m) f; is = rw (to_z_pos w32 m) (to_z-of_z f) }

-- v + 6 for −6 ≤ v ≤ 9, and any other number that is not negative and small
pub record Natural (v : ℤ) : Type 0 where
  pub fits : SFits w32 v
  pub sign : T (non_neg v)
  pub small : nat_abs v < 2 ^ 31

pub natural : (v : ℤ) (n : ℕ) → pos n ≡ v → n < 2 ^ 31 → Natural v
natural v n e h = rw (← e) (record { fits = record { sfits = h }; sign = tt; small = h })

pub raised_natural : (v : ℤ) → negsuc 5 ≤ℤ v → v ≤ℤ pos 9 → Natural (v +ℤ pos 6)
raised_natural v h k = let r = raised v h k in natural (v +ℤ pos 6) (nat_abs (v +ℤ pos 6)) r.0 (omega (arith, r.1))

pub accumulator_natural : (d : ℕ) (v : ℤ) → d ≤ 16 → accumulator_legal d v ≡ true → Natural v × (nat_abs v < 16)
accumulator_natural d v h e =
    let a = legal_accumulator d v e in
    (natural v (nat_abs v) (sym a.is) (omega (arith, a.most)), omega (arith, a.most))

-- ---- two's complement

one_less : (a w : ℕ) → 0 < a → a * w ≡ (a - 1) * w + w
one_less zero w h = absurd (omega arith)
one_less (suc a) w h = let e : suc a - 1 ≡ a = omega arith in rw e (suc-mul a w)

pub weight_fits : (q : ℕ) (v : ℤ) → q ≤ 22 → weight_legal q v ≡ true → SFits w32 v
weight_fits q v k e =
    let m : 2 ^ (q - 1) ≤ 2 ^ 21 = pow_mono {i = q - 1} {j = 21} (omega arith) in
    fits_signed_from_abs w32 v (omega (arith, (legal_weight q v e).size))

-- the lowest q bits of a weight, which 32 bits hold
pub record Low (q r : ℕ) (v : ℤ) (w : ℕ) : Type 0 where
  pub is : w % r ≡ twos q v
  pub most : w % r < 2 ^ q

low_word : (q : ℕ) (v : ℤ) → 1 ≤ q → q ≤ 22 → weight_legal q v ≡ true → of_z w32 v % 2 ^ q ≡ twos q v
unfolding twos
low_word q (pos n) h k e = mod-eq_of_lt (twos_lt q (pos n) h e)
low_word q (negsuc n) h k e =
    let l : suc n ≤ 2 ^ (q - 1) = (legal_weight q (negsuc n) e).size in
    let m : 2 ^ (q - 1) ≤ 2 ^ q = pow_mono {i = q - 1} {j = q} (omega arith) in
    let p : 0 < 2 ^ (32 - q) = pow_pos (32 - q) in
    let c : 32 ≡ 32 - q + q = omega arith in
    let f : 2 ^ 32 ≡ 2 ^ (32 - q) * 2 ^ q = ap (λ (x : ℕ). 2 ^ x) c ∙ pow-add 2 (32 - q) q in
    let g : 2 ^ (32 - q) * 2 ^ q ≡ (2 ^ (32 - q) - 1) * 2 ^ q + 2 ^ q = one_less (2 ^ (32 - q)) (2 ^ q) p in
    let w : 2 ^ 32 - suc n ≡ (2 ^ (32 - q) - 1) * 2 ^ q + (2 ^ q - suc n) = omega arith in
    ap (λ (x : ℕ). x % 2 ^ q) w ∙ mod-mul-add (2 ^ (32 - q) - 1) (2 ^ q) (2 ^ q - suc n) (omega arith)

pub low_bits : (q r : ℕ) (v : ℤ) → r ≡ 2 ^ q → 1 ≤ q → q ≤ 22 → weight_legal q v ≡ true → Low q r v (of_z w32 v)
low_bits q r v s h k e =
    let is : of_z w32 v % r ≡ twos q v = ap (λ (x : ℕ). of_z w32 v % x) s ∙ low_word q v h k e in
    record { is = is; most = subst (λ (x : ℕ). x < 2 ^ q) (sym is) (twos_lt q v h e) }

pub small_power : (q r : ℕ) → r ≡ 2 ^ q → q ≤ 22 → r < 2 ^ 31
small_power q r e k = let p : 2 ^ q ≤ 2 ^ 22 = pow_mono {i = q} {j = 22} k in omega arith

-- Sizes as numerals, for values far down a chain of operations, where `omega` is handed too much: each operation has its bound, and only the last is compared.
use Rattle.integers.specs.Sizes.{Sz}
use Rattle.std.specs.Prelude.{ℕ, ◌+◌, ◌*◌, ◌^◌, ◌<◌, ◌≤◌, T, ltb, ℤ, pos, ◌+ℤ◌, ◌-ℤ◌, ◌*ℤ◌, nat_abs}
use Rattle.std.proofs.Common.{arith, ltb→lt}
use Rattle.std.specs.Int.{Width, w64}
use mir.Val.{SFits, hbits}
use Rattle.integers.specs.Integer.{floor_div}
use Rattle.integers.specs.Parts.{zs, add, sub, abs_parts, fits_parts}
use Rattle.integers.specs.Products.{mul_bound}
use Rattle.integers.proofs.Floors.{floor}

pub sz_lit : (n : ℕ) → Sz n (pos n)
sz_lit n = record { le = omega arith }

pub sz_of : {w : Width} {z : ℤ} → SFits w z → Sz (2 ^ hbits w) z
sz_of f = record { le = fits_parts f }

pub sz_abs : {b : ℕ} (z : ℤ) → nat_abs z ≤ b → Sz b z
sz_abs z h = record { le = omega (arith, abs_parts z) }

module _ {a b : ℕ} {x y : ℤ} where
  pub sz_add : Sz a x → Sz b y → Sz (a + b) (x +ℤ y)
  sz_add h k = record { le = omega (arith, add x y, h.le, k.le) }

  pub sz_sub : Sz a x → Sz b y → Sz (a + b) (x -ℤ y)
  sz_sub h k = record { le = omega (arith, sub x y, h.le, k.le) }

  pub sz_mul : Sz a x → Sz b y → Sz (a * b) (x *ℤ y)
  sz_mul h k = record { le = mul_bound x y h.le k.le }

pub sz_floor : {a : ℕ} {z : ℤ} (d : ℕ) → 0 < d → Sz a z → Sz a (floor_div z d)
sz_floor {z} d p h = record { le = omega (arith, (floor z d p).size, h.le) }

-- at numerals: `sz_fits (sz_add hx hy) tt`
pub sz_fits : {w : Width} {b : ℕ} {z : ℤ} → Sz b z → T (ltb b (2 ^ hbits w)) → SFits w z
sz_fits {w} {b} {z} h t = omega (zs, h.le, ltb→lt b (2 ^ hbits w) t)

-- −x as 0 − x fits, unless x is the least number
pub negated_fits : (x : ℤ) → nat_abs x < 2 ^ 63 → SFits w64 (pos 0 -ℤ x)
negated_fits x h = omega (zs, h, sub (pos 0) x, abs_parts x)

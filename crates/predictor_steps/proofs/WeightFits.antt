-- Every number on the way to a weight or an exponent fits.
use mathlib.Core.Path.{◌≡◌}
use Prim.Native.Nat.{ℕ, ◌+◌, ◌*◌, ◌^◌, ◌≤◌}
use native.Mathlib.Omega.{arith}
use lib.IntN.{ℤ, pos, nat_abs, ◌+ℤ◌, ◌-ℤ◌, ◌*ℤ◌}
use mir.Syntax.{w32, w64}
use mir.Val.{SFits}
use Rattle.integers.proofs.Laws.{P, N, zs, wide, add, sub, one0, abs_parts, mul_bound, Sz, sz_of, sz_abs, sz_add, sz_sub, sz_mul, sz_lit, sz_fits}
use Rattle.predictor_steps.proofs.Sizes.{power_small}

-- a step, and the ends of the range
pub record Step (w g p : ℤ) : Type 0 where
  pub w_32 : SFits w32 w
  pub w_64 : SFits w64 w
  pub g_64 : SFits w64 g
  pub p_64 : SFits w64 p
  pub wg : SFits w64 (w +ℤ g)
  pub np : SFits w64 (pos 0 -ℤ p)
  pub p1 : SFits w64 (p -ℤ pos 1)

pub step_fits : (w g p : ℤ) → SFits w32 w → SFits w64 g → SFits w64 p → P g + N g ≤ 2 ^ 50 → P p + N p ≤ 2 ^ 21 → Step w g p
step_fits w g p fw fg fp hg hp =
    let zg : Sz (2 ^ 50) g = record { le = hg } in
    let zp : Sz (2 ^ 21) p = record { le = hp } in
    record {
      w_32 = fw;
      w_64 = wide fw;
      g_64 = fg;
      p_64 = fp;
      wg = sz_fits (sz_add (sz_of fw) zg) tt;
      np = sz_fits (sz_sub (sz_lit 0) zp) tt;
      p1 = sz_fits (sz_sub zp (sz_lit 1)) tt;
    }

-- the exponent from its clipped turns
pub record Exponent (v : ℤ) (d o : ℕ) : Type 0 where
  pub v_64 : SFits w64 v
  pub vd : SFits w64 (v +ℤ pos d)
  pub vdo : SFits w64 (v +ℤ pos d -ℤ pos o)
  pub vdo_32 : SFits w32 (v +ℤ pos d -ℤ pos o)
  pub small : nat_abs (v +ℤ pos d -ℤ pos o) ≤ 30

pub exponent_fits : (v : ℤ) (d o : ℕ) → SFits w64 v → P v + N v ≤ 9 → d ≤ 16 → o ≤ 19 → Exponent v d o
exponent_fits v d o fv hv hd ho =
    let a = add v (pos d) in
    let b = sub (v +ℤ pos d) (pos o) in
    let s : P (v +ℤ pos d -ℤ pos o) + N (v +ℤ pos d -ℤ pos o) ≤ 30 =
    omega (arith, a.value, b.value, one0 (v +ℤ pos d -ℤ pos o), one0 (v +ℤ pos d)) in
    record {
      v_64 = fv;
      vd = sz_fits (sz_add zv zd) tt;
      vdo = sz_fits (sz_sub (sz_add zv zd) zo) tt;
      vdo_32 = sz_fits
          (sz_sub (sz_add zv zd) zo) tt;
      small = omega (arith, abs_parts (v +ℤ pos d -ℤ pos o));
    }
  where
    zv : Sz 9 v
    zv = record { le = hv }

    zd : Sz 16 (pos d)
    zd = record { le = omega arith }

    zo : Sz 19 (pos o)
    zo = record { le = omega arith }

-- the weight of a table value
pub record Custom (p l : ℤ) (h : ℕ) : Type 0 where
  pub l_32 : SFits w32 l
  pub l_64 : SFits w64 l
  pub p_64 : SFits w64 p
  pub pl : SFits w64 (p *ℤ l)
  pub plh : SFits w64 (p *ℤ l +ℤ pos h)

pub custom_fits : (p l : ℤ) (h : ℕ) → SFits w32 l → SFits w64 p → P p + N p ≤ 2 ^ 22 → h ≤ 2 ^ 22 → Custom p l h
custom_fits p l h fl fp hp hh =
    let zp : Sz (2 ^ 22) p = record { le = hp } in
    let zh : Sz (2 ^ 22) (pos h) = record { le = omega arith } in
    let zpl = sz_mul zp (sz_of fl) in
    record { l_32 = fl; l_64 = wide fl; p_64 = fp; pl = sz_fits zpl tt; plh = sz_fits (sz_add zpl zh) tt }

-- a gain: the sum, the product, and the exponent turned
pub sum_fits : (v p : ℤ) (k : ℕ) → nat_abs v ≤ 2 ^ 19 → k ≤ 30 → p ≡ pos (2 ^ k) → SFits w64 (v +ℤ p)
sum_fits v p k hv hk e = omega (zs, add v p, abs_parts v, power_small k 30 p hk e)

pub product_small : (v p : ℤ) (k : ℕ) → nat_abs v ≤ 2 ^ 19 → k ≤ 30 → p ≡ pos (2 ^ k) → P (p *ℤ v) + N (p *ℤ v) ≤ 2 ^ 30 * 2 ^ 19
product_small v p k hv hk e =
    let h : P v + N v ≤ 2 ^ 19 = omega (arith, abs_parts v) in
    mul_bound p v (power_small k 30 p hk e) h

pub turned_small : (rho : ℤ) → nat_abs rho ≤ 30 → nat_abs (pos 0 -ℤ rho) ≤ 30
turned_small rho h = omega (zs, sub (pos 0) rho, abs_parts rho, abs_parts (pos 0 -ℤ rho))

-- the scaled error
pub record Error (x s : ℤ) : Type 0 where
  pub x_32 : SFits w32 x
  pub x_64 : SFits w64 x
  pub s_64 : SFits w64 s
  pub m : SFits w64 (pos 2 *ℤ x)
  pub d : SFits w64 (pos 2 *ℤ x -ℤ s)

pub error_fits : (x s : ℤ) → SFits w32 x → SFits w64 s → nat_abs s ≤ 2 ^ 18 → Error x s
error_fits x s fx fs h =
    let zm = sz_mul (sz_lit 2) (sz_of fx) in
    record { x_32 = fx; x_64 = wide fx; s_64 = fs; m = sz_fits zm tt; d = sz_fits (sz_sub zm (sz_abs s h)) tt }

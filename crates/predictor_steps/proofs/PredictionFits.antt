-- Every number on the way to a scaled prediction fits.
use Prim.Native.Nat.{◌+◌, ◌^◌, ◌≤◌}
use native.Mathlib.Omega.{arith}
use lib.IntN.{ℤ, pos, nat_abs, ◌+ℤ◌, ◌-ℤ◌, ◌*ℤ◌}
use mir.Syntax.{w32, w64}
use mir.Val.{SFits}
use Rattle.integers.proofs.Laws.{P, N, wide, abs_parts, Sz, sz_of, sz_abs, sz_add, sz_sub, sz_mul, sz_lit, sz_fits}
use Rattle.predictor.specs.Asks.{Sample}

-- what the local sum lies above four middles
pub record Offset (s mid p : ℤ) : Type 0 where
  pub mid32 : SFits w32 mid
  pub mid64 : SFits w64 mid
  pub s64 : SFits w64 s
  pub p64 : SFits w64 p
  pub m : SFits w64 (pos 4 *ℤ mid)
  pub d : SFits w64 (s -ℤ pos 4 *ℤ mid)
  pub pd : SFits w64 (p *ℤ (s -ℤ pos 4 *ℤ mid))
  pub size : nat_abs (p *ℤ (s -ℤ pos 4 *ℤ mid)) ≤ 2 ^ 40

pub offset_fits : (s mid p : ℤ) → SFits w32 mid → SFits w64 s → SFits w64 p → nat_abs s ≤ 2 ^ 18 → Sample mid → P p + N p ≤ 2 ^ 19
    → Offset s mid p
offset_fits s mid p fm fs fp hs hm hp =
    let zm = sz_mul (sz_lit 4) (sz_abs mid hm) in
    let zd = sz_sub (sz_abs s hs) zm in
    let zp : Sz (2 ^ 19) p = record { le = hp } in
    let zr = sz_mul zp zd in
    record {
      mid32 = fm;
      mid64 = wide fm;
      s64 = fs;
      p64 = fp;
      m = sz_fits zm tt;
      d = sz_fits zd tt;
      pd = sz_fits zr tt;
      size = let h = zr.le in omega (arith, abs_parts (p *ℤ (s -ℤ pos 4 *ℤ mid)));
    }

-- the clip and its ends
pub record Bounded (q low mid high : ℤ) : Type 0 where
  pub q64 : SFits w64 q
  pub low32 : SFits w32 low
  pub low64 : SFits w64 low
  pub mid32 : SFits w32 mid
  pub mid64 : SFits w64 mid
  pub high32 : SFits w32 high
  pub high64 : SFits w64 high
  pub m2 : SFits w64 (pos 2 *ℤ mid)
  pub qm : SFits w64 (q +ℤ pos 2 *ℤ mid)
  pub qm1 : SFits w64 (q +ℤ pos 2 *ℤ mid +ℤ pos 1)
  pub l2 : SFits w64 (pos 2 *ℤ low)
  pub h2 : SFits w64 (pos 2 *ℤ high)
  pub h21 : SFits w64 (pos 2 *ℤ high +ℤ pos 1)

pub bounded_fits : (q low mid high : ℤ) → SFits w64 q → SFits w32 low → SFits w32 mid → SFits w32 high → P q + N q ≤ 2 ^ 62
    → Bounded q low mid high
bounded_fits q low mid high fq fl fm fh hq =
    let zq : Sz (2 ^ 62) q = record { le = hq } in
    let zm = sz_mul (sz_lit 2) (sz_of fm) in
    let zqm = sz_add zq zm in
    let zl = sz_mul (sz_lit 2) (sz_of fl) in
    let zh = sz_mul (sz_lit 2) (sz_of fh) in
    record {
      q64 = fq;
      low32 = fl;
      low64 = wide fl;
      mid32 = fm;
      mid64 = wide fm;
      high32 = fh;
      high64 = wide fh;
      m2 =
          sz_fits zm tt;
      qm = sz_fits zqm tt;
      qm1 = sz_fits (sz_add zqm (sz_lit 1)) tt;
      l2 = sz_fits zl tt;
      h2 = sz_fits zh tt;
      h21 = sz_fits (sz_add zh (sz_lit 1)) tt;
    }

-- twice a sample
pub record Twice (x : ℤ) : Type 0 where
  pub x_32 : SFits w32 x
  pub x_64 : SFits w64 x
  pub r : SFits w64 (pos 2 *ℤ x)

pub twice_fits : (x : ℤ) → SFits w32 x → Twice x
twice_fits x f = record { x_32 = f; x_64 = wide f; r = sz_fits (sz_mul (sz_lit 2) (sz_of f)) tt }

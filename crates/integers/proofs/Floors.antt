-- Division rounded down: the quotient is the one q with d q ≤ z < d q + d, the remainder lies from 0 up to d − 1, and the machine's signed shift is this division.
use Rattle.integers.specs.Floors.{Floor}
use Rattle.std.specs.Prelude.{◌≡◌, refl, ℕ, suc, ◌+◌, ◌*◌, ◌/◌, ◌<◌, ◌≤◌, ℤ, pos, negsuc, ◌-ℤ◌, ◌*ℤ◌, ◌+ℤ◌, ◌≤ℤ◌, ◌<ℤ◌}
use Rattle.std.proofs.Common.{arith, mul-suc, mul-zero, mul-add, mod-lt, div-le_self, le_antisymm, SFits}
use Rattle.std.proofs.Math.Nat.{lt_of_mul-lt-mul_left, div-add-mod}
use Rattle.std.specs.Int.Signed.{shr_z, mag_shr}
use Rattle.std.specs.Int.{Width}
use Rattle.integers.specs.Integer.{floor_div, floor_mod}
use Rattle.integers.specs.Parts.{P, N, zs, ext, add, sub}
use Rattle.integers.specs.Products.{mul_P, mul_N}

pub floor : (z : ℤ) (d : ℕ) → 0 < d → Floor z d (floor_div z d)
floor (pos a) d h = record {
  low = omega (arith, div-add-mod a d, mul-zero d);
  high = omega (arith, div-add-mod a d, mod-lt a h, mul-zero d);
  size = omega (arith, div-le_self a d);
}
floor (negsuc a) d h = record {
  low = omega (arith, div-add-mod a d, mod-lt a h, mul-zero d, mul-suc d (a / d));
  high = omega (arith, div-add-mod a d, mod-lt a h, mul-zero d, mul-suc d (a / d));
  size = omega (arith, div-le_self a d);
}

floor_le : (z : ℤ) (d : ℕ) (q r : ℤ) → d * P q + N z ≤ P z + d * N q → P z + d * N r < d * P r + N z + d → P q + N r ≤ P r + N q
floor_le z d q r h k =
    let m : d * (P q + N r) < d * suc (P r + N q) = omega (arith, mul-add d (P q) (N r), mul-suc d (P r + N q), mul-add d (P r) (N q)) in
    omega (arith, lt_of_mul-lt-mul_left d m)

-- there is one such q
pub floor_is : (z : ℤ) (d : ℕ) (q : ℤ) → 0 < d → d * P q + N z ≤ P z + d * N q → P z + d * N q < d * P q + N z + d → q ≡ floor_div z d
floor_is z d q p h k =
    let f = floor z d p in
    ext q (floor_div z d) (le_antisymm (floor_le z d q (floor_div z d) h f.high) (floor_le z d (floor_div z d) q f.low k))

-- 0 ≤ z mod d < d
pub floor_mod_range : (z : ℤ) (d : ℕ) → 0 < d → (pos 0 ≤ℤ floor_mod z d) × (floor_mod z d <ℤ pos d)
unfolding floor_mod
floor_mod_range z d p =
    let q = floor_div z d in
    let f = floor z d p in
    let mp = mul_P d q in
    let mn = mul_N d q in
    let s = sub z (pos d *ℤ q) in
    (omega zs, omega zs)

-- z = d ⌊z / d⌋ + z mod d
pub floor_mod_sum : (z : ℤ) (d : ℕ) → z ≡ pos d *ℤ floor_div z d +ℤ floor_mod z d
unfolding floor_mod
floor_mod_sum z d =
    let m = pos d *ℤ floor_div z d in
    omega (zs, sub z m, add m (z -ℤ m))

pub shr_floor : (z : ℤ) (d : ℕ) → shr_z z d ≡ floor_div z d
shr_floor (pos a) d = refl
shr_floor (negsuc a) d = refl

pub shr_fits : {w : Width} (z : ℤ) (d : ℕ) → SFits w z → SFits w (shr_z z d)
shr_fits z d f = record { sfits = omega (arith, mag_shr z d, f.sfits) }

pub floor_fits : {w : Width} (z : ℤ) (d : ℕ) → SFits w z → SFits w (floor_div z d)
floor_fits z d f = rw (← shr_floor z d) (shr_fits z d f)

-- The inner product goes on by one product a turn, and 64 bits hold it.
use Rattle.std.proofs.Common.{◌≡◌, sym, List, ℕ, suc, ◌+◌, ◌*◌, ◌^◌, ◌<◌, ◌≤◌, ℤ, pos, ◌+ℤ◌, ◌*ℤ◌, length, get_or, drop, drop-cons, add-one, arith, SFits, w32, w64}
use Rattle.std.proofs.Math.IntN.{+ℤ_assoc}
use Rattle.integers.proofs.Laws.{P, N, zs, add, abs_parts, mul_bound}
use Rattle.predictor.specs.Prediction.{inner}
use Rattle.predictor.specs.Each.{Each}
use Rattle.predictor.specs.SizeLaws.{Size}
use Rattle.predictor.specs.Asks.{Pairs}

-- an element of a list that is small fits
small_at : {b : ℕ} (l : List ℤ) (i : ℕ) → Each (Size b) l → P (get_or l i (pos 0)) + N (get_or l i (pos 0)) ≤ b
small_at l i h = omega (arith, abs_parts (get_or l i (pos 0)), h.at i)

-- one turn, of numbers
pub record Turn (z x y : ℤ) (i : ℕ) : Type 0 where
  pub x32 : SFits w32 x
  pub x64 : SFits w64 x
  pub y32 : SFits w32 y
  pub y64 : SFits w64 y
  pub xy : SFits w64 (x *ℤ y)
  pub more : SFits w64 (z +ℤ x *ℤ y)
  pub bound : P (z +ℤ x *ℤ y) + N (z +ℤ x *ℤ y) ≤ (i + 1) * 2 ^ 40

turn : (z x y : ℤ) (i : ℕ) → i < 18 → P z + N z ≤ i * 2 ^ 40 → P x + N x ≤ 2 ^ 21 → P y + N y ≤ 2 ^ 19 → Turn z x y i
turn z x y i h hz hx hy =
    let m : P (x *ℤ y) + N (x *ℤ y) ≤ 2 ^ 40 = mul_bound x y hx hy in
    record {
      x32 = omega zs;
      x64 = omega zs;
      y32 = omega zs;
      y64 = omega zs;
      xy = omega zs;
      more = omega (zs, add z (x *ℤ y));
      bound = omega (zs, add z (x *ℤ y));
    }

-- one turn, of the lists
pub turn_at : (w u : List ℤ) (z : ℤ) (i : ℕ) → Pairs w u → i < length w → P z + N z ≤ i * 2 ^ 40 → Turn z (get_or w i (pos 0)) (get_or u i (pos 0)) i
turn_at w u z i p h s = turn z (get_or w i (pos 0)) (get_or u i (pos 0)) i (omega (arith, p.few)) s (small_at w i p.ws_small) (small_at u i p.us_small)

-- the sum goes on by one product
pub step : (w u : List ℤ) (i : ℕ) (z : ℤ) → i < length w → length u ≡ length w
    → z +ℤ inner (drop i w) (drop i u) ≡ (z +ℤ get_or w i (pos 0) *ℤ get_or u i (pos 0)) +ℤ inner (drop (i + 1) w) (drop (i + 1) u)
unfolding inner
step w u i z h e =
    let k : i < length u = omega arith in
    rw (add-one, drop-cons w i (pos 0), drop-cons u i (pos 0))
    (sym (+ℤ_assoc z (get_or w i (pos 0) *ℤ get_or u i (pos 0)) (inner (drop (suc i) w) (drop (suc i) u))))

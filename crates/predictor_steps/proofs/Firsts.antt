-- The first prediction of a band, with a band before it that predicts, and without.
use borrow.Author.Tests.{lt-ltb, le-ltb}
use mathlib.Core.Path.{◌≡◌, sym, ap}
use mathlib.Core.Bool.{Bool, true, false, cond, ◌&&◌}
use mathlib.Core.List.{List}
use Prim.Native.Nat.{ℕ, ◌+◌, ◌-◌, ◌*◌, ◌<◌, ◌≤◌}
use native.Mathlib.Omega.{arith}
use native.Mathlib.Nat.{mul-pos}
use lib.Dec.{ltb}
use lib.ListN.{length, get_or}
use lib.IntN.{ℤ, pos}
use Rattle.settings.specs.declared.Settings.{Settings}
use Rattle.predictor.specs.LocalSum.{two}
use Rattle.predictor.specs.Differences.{image_of}
use Rattle.predictor.specs.Prediction.{first_prediction}
use Rattle.predictor.specs.Asks.{First}
use Rattle.predictor.specs.Inputs.{area, settings, inside}
use Rattle.settings.specs.Range as range

module _ {S : Settings} {samples : List ℤ} {z : ℕ} {middle : ℤ} (f : First S samples z middle) where
  pub before_in : 0 < z → (z - 1) * area S < length samples
  before_in h =
      let l = (settings f.given).image in
      let a : 0 < area S = mul-pos l.nx_least l.ny_least in
      let z-in : z - 1 < S.image.nz = omega (arith, f.band_in) in
      let q = inside f.given z-in a in
      omega arith

  pub first_behind : 0 < z → ltb 0 S.predictor.bands ≡ true
      → first_prediction S (image_of S.image samples) z ≡ two (get_or samples ((z - 1) * area S) (pos 0))
  unfolding first_prediction image_of
  first_behind p b = let i : (z - 1) * area S + 0 ≡ (z - 1) * area S = omega arith in rw (b, lt-ltb 0 z p, i)

  middles : two (range.middle S.image) ≡ two middle
  middles = ap (λ (m : ℤ). two m) (sym f.middle_is)

  -- no band predicts
  pub first_none : ltb 0 S.predictor.bands ≡ false → first_prediction S (image_of S.image samples) z ≡ two middle
  unfolding first_prediction
  first_none b = rw b middles

  -- the first band
  pub first_band : z ≤ 0 → first_prediction S (image_of S.image samples) z ≡ two middle
  unfolding first_prediction
  first_band p = rw (le-ltb 0 z p) (go (ltb 0 S.predictor.bands))
    where
      go : (b : Bool) → cond (b && false) (two (image_of S.image samples (z - 1) 0)) (two (range.middle S.image)) ≡ two middle
      go true = middles
      go false = middles

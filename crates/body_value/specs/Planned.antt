-- What the plan of legal settings holds, over its parts: the invariant of the type. So no line here may name that type.
use Rattle.std.specs.Prelude.{◌≡◌, true, cond, ℕ, zero, suc, ◌*◌, ◌/◌, ◌^◌, ◌≤◌, leb}
use Rattle.settings.specs.declared.Settings.{Settings}
use Rattle.settings.specs.declared.range.Range.{Range}
use Rattle.settings.specs.Legal.{settings_legal}
use Rattle.settings.specs.Range.{lowest, middle, highest}

-- how often x is halved before it is at most 1, n times at most
unfoldable pub halvings : ℕ → ℕ → ℕ
halvings zero x = 0
halvings (suc n) x = cond (leb x 1) 0 (suc (halvings n (x / 2)))

-- legal settings, the sizes of a row and of a band, the samples' range, and the exponent of the interval
pub record Planned (S : Settings) (nx area : ℕ) (range : Range) (interval : ℕ) : Type 0 where
  pub legal : settings_legal S ≡ true
  pub nx_is : nx ≡ S.image.nx
  pub area_is : area ≡ S.image.nx * S.image.ny
  pub low_is : range.low ≡ lowest S.image
  pub middle_is : range.middle ≡ middle S.image
  pub high_is : range.high ≡ highest S.image
  pub interval_is : S.predictor.interval ≡ 2 ^ interval
  pub interval_few : interval ≤ 11

-- What the body's laws ask of samples.
use Rattle.std.specs.Prelude.{◌≡◌, true, List, ℕ, ℤ, pos, length, get_or}
use Rattle.settings.specs.declared.Settings.{Settings}
use Rattle.settings.specs.Legal.{sample_count}
use Rattle.settings.specs.Range.{in_range}

-- samples of the whole image, each in range
pub record Good (S : Settings) (samples : List ℤ) : Type 0 where
  pub long : length samples ≡ sample_count S.image
  pub in_range_lem : (i : ℕ) → in_range S.image (get_or samples i (pos 0)) ≡ true

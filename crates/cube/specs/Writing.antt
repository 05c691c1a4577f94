-- What writing a file does to the output, whether or not it fits.
use Rattle.std.specs.Prelude.{◌≡◌, List, ◌++◌, ℕ, ◌≤◌, ℤ, length, drop}
use Rattle.settings.specs.declared.Settings.{Settings}
use Rattle.cube.specs.File.{file}

-- n is the file's length; where it fits, the output is the file with what stood behind it
pub record Written (S : Settings) (tables samples : List ℤ) (out : List ℕ) (n : ℕ) (out' : List ℕ) : Type 0 where
  pub size : n ≡ length (file S tables samples)
  pub stored : n ≤ length out' → out' ≡ file S tables samples ++ drop n out

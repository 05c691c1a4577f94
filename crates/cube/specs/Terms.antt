-- What the demands speak of: what the standard and the house allow, memory enough, and what an opened file is.
use Rattle.std.specs.Prelude.{◌≡◌, true, List, ℕ, ◌*◌, ◌≤◌, ℤ, length}
use Rattle.settings.specs.declared.Settings.{Settings}
use Rattle.settings.specs.Legal.{settings_legal, limited, sample_count}
use Rattle.settings.specs.Tables.{table_stride, tables_legal}
use Rattle.settings.specs.Fine.{Roomy}
use Rattle.header.specs.Tables.{used_tables}
use Rattle.header.specs.Write.{used_settings}
use Rattle.body.specs.Good.{Good}
use Rattle.cube.specs.File.{file}
use Rattle.cube.specs.Open.{Lent}
use Rattle.cube.specs.Areas.{filled_from}

-- legal settings within the house limits, legal values in the table slots they use, and a whole image in range
pub record Allowed (S : Settings) (tables samples : List ℤ) : Type 0 where
  pub legal : settings_legal S ≡ true
  pub within : limited S.image ≡ true
  pub entries : tables_legal S tables ≡ true
  pub good : Good S samples

-- enough memory is lent
pub record Enough (S : Settings) (lent : Lent) : Type 0 where
  pub image : sample_count S.image ≤ lent.image
  pub areas : Roomy S lent.scratch lent.tables

-- bytes that opened, with areas that held `area` and `image` and now hold t and i: the file of allowed settings, tables and samples,
-- where what is not used is 0, and the areas hold these tables and samples
pub record OpenedTo (bytes : List ℕ) (S : Settings) (tables samples area image t i : List ℤ) : Type 0 where
  pub allowed : Allowed S tables samples
  pub named : used_settings S ≡ S
  pub used : used_tables S tables ≡ tables
  pub long : length tables ≡ table_stride * S.image.nz
  pub tables_are : t ≡ filled_from tables area
  pub samples_are : i ≡ filled_from samples image
  pub file_is : file S tables samples ≡ bytes

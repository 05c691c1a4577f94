-- What passes the writer's tests, said as plain facts.
use Rattle.std.specs.Prelude.{◌≡◌, true, List, ℕ, ◌*◌, ◌≤◌, ℤ, length}
use Rattle.settings.specs.declared.Settings.{Settings}
use Rattle.settings.specs.Legal.{settings_legal, limited, sample_count}
use Rattle.settings.specs.Range.{first_out}
use Rattle.settings.specs.Tables.{table_stride, scratch_stride, tables_legal}

-- scratch and the table area are long enough
pub record Roomy (S : Settings) (scratch tables : ℕ) : Type 0 where
  pub scratch_holds : scratch_stride * S.image.nz ≤ scratch
  pub tables_hold : table_stride * S.image.nz ≤ tables

-- legal settings within the house limits, all samples and each in range, memory enough, and legal values in the table slots used
pub record Fine (S : Settings) (tables samples : List ℤ) (scratch : ℕ) : Type 0 where
  pub legal : settings_legal S ≡ true
  pub small : limited S.image ≡ true
  pub counted : length samples ≡ sample_count S.image
  pub room : Roomy S scratch (length tables)
  pub values : tables_legal S tables ≡ true
  pub in_range_lem : first_out S.image samples ≡ length samples

-- All bands before their first values.
use Rattle.std.specs.Prelude.{◌≡◌, true, List, ℕ, ◌*◌, ◌<◌, ◌≤◌, ℤ, length}
use Rattle.settings.specs.Tables.{table_stride, scratch_stride, tables_legal}
use Rattle.body_value.specs.declared.plan.Plan.{Plan}
use Rattle.body_value.specs.Value.{Started}
use Rattle.body_walk.specs.Standing.{part}

-- legal tables, and slots for every band
pub record Tabled (P : Plan) (tables scratch : List ℤ) : Type 0 where
  pub values : tables_legal P.settings tables ≡ true
  pub area : table_stride * P.settings.image.nz ≤ length tables
  pub long : scratch_stride * P.settings.image.nz ≤ length scratch

-- the first n bands stand before their first values
pub record Begun (P : Plan) (tables scratch : List ℤ) (n : ℕ) : Type 0 where
  pub each : (b : ℕ) → b < n → Started P tables b (part scratch b)

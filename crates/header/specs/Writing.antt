-- What the header's writers ask of settings and table values.
use Rattle.std.specs.Prelude.{◌≡◌, true, List, [], ◌∷◌, ℕ, ◌*◌, ◌≤◌, ℤ, length}
use Rattle.settings.specs.declared.Settings.{Settings}
use Rattle.settings.specs.Legal.{settings_legal, limited}
use Rattle.settings.specs.Tables.{table_stride, tables_legal}
use Rattle.header.specs.Fields.{Field, ◌∶◌}

-- the settings and the table values that they use can be written
pub record Writable (S : Settings) (tables : List ℤ) : Type 0 where
  pub legal : settings_legal S ≡ true
  pub small : limited S.image ≡ true
  pub entries : tables_legal S tables ≡ true
  pub area : table_stride * S.image.nz ≤ length tables

-- fields by their widths and their values
unfoldable pub fields_of : List ℕ → List ℕ → List Field
fields_of [] vs = []
fields_of (w ∷ ws) [] = []
fields_of (w ∷ ws) (v ∷ vs) = w ∶ v ∷ fields_of ws vs

-- A part of the reader's walk: safe wherever scratch fits, and right wherever the bands stand there.
use Rattle.std.specs.Prelude.{◌≡◌, Bool, List, ◌++◌, ℕ, ◌+◌, ◌*◌, ◌≤◌, ℤ, length, drop, Result, Ok, Err}
use Rattle.settings.specs.Limits.{file_ceiling}
use Rattle.refusals.specs.declared.Refusal.{Refusal}
use Rattle.refusals.specs.Reading.{refused}
use Rattle.predictor.specs.Differences.{image_of}
use Rattle.predictor.specs.Asks as asks
use Rattle.body.specs.Order.{Place}
use Rattle.body.specs.Body.{read_body}
use Rattle.body_value.specs.declared.plan.Plan.{Plan}
use Rattle.body_value.specs.declared.Cursor.{Cursor}
use Rattle.body_walk.specs.Direction.{State}
use Rattle.body_walk.specs.Standing.{Fit, Stand, after, Along}

-- where a reader stands: the samples so far, the bands' slots, the position in the file
pub record ReaderState : Type 0 where
  pub samples : List ℤ
  pub scratch : List ℤ
  pub cursor : Cursor

abbrev pub reader_at : List ℤ → List ℤ → Cursor → ReaderState
reader_at samples scratch c = record { samples = samples; scratch = scratch; cursor = c }

-- the places ps may be read
pub record Readable (P : Plan) (s : ReaderState) (ps : List Place) : Type 0 where
  pub image : asks.Given P.settings s.samples
  pub fit : Fit P s.scratch
  pub room : s.cursor.at + 64 * length ps ≤ 2 * file_ceiling
  pub count : s.cursor.rank + length ps ≤ 2 * file_ceiling

-- they are: what is behind them is read as if nothing had been before them
pub record Took (P : Plan) (F : List Bool) (s : ReaderState) (ps : List Place) (s' : ReaderState) : Type 0 where
  pub image : asks.Given P.settings s'.samples
  pub fit : Fit P s'.scratch
  pub few : s'.cursor.at ≤ s.cursor.at + 64 * length ps
  pub next : s'.cursor.rank ≡ s.cursor.rank + length ps
  pub inside : s.cursor.at ≤ length F → s'.cursor.at ≤ length F
  pub means : (tables : List ℤ) (f : ℕ → ℕ) → Stand P.settings tables (image_of P.settings.image s.samples) s.scratch f → Along f ps
      → ((qs : List Place) → read_body P.settings tables s.cursor.rank (ps ++ qs) s.samples (drop s.cursor.at F)
      ≡ read_body P.settings tables s'.cursor.rank qs s'.samples (drop s'.cursor.at F))
      × Stand P.settings tables (image_of P.settings.image s'.samples) s'.scratch (after f ps)

-- the reading stops within them, whatever comes behind
pub record Stops (P : Plan) (F : List Bool) (s : ReaderState) (ps : List Place) (r : Refusal) : Type 0 where
  pub means : (tables : List ℤ) (f : ℕ → ℕ) → Stand P.settings tables (image_of P.settings.image s.samples) s.scratch f → Along f ps
      → (qs : List Place) → read_body P.settings tables s.cursor.rank (ps ++ qs) s.samples (drop s.cursor.at F) ≡ refused r

-- what an answer says
abbrev pub Went : Plan → List Bool → ReaderState → List Place → List ℤ → List ℤ → Result Cursor Refusal → Type 0
Went P F s ps samples' scratch' (Ok c) = Took P F s ps (reader_at samples' scratch' c)
Went P F s ps samples' scratch' (Err r) = Stops P F s ps r

-- ---- as a direction of the walk

abbrev pub reader_of : State ℤ Cursor → ReaderState
reader_of s = reader_at s.filled s.scratch s.at

abbrev pub reader_ready : Plan → State ℤ Cursor → List Place → Type 0
reader_ready P s ps = Readable P (reader_of s) ps

abbrev pub reader_part : Plan → List Bool → State ℤ Cursor → List Place → State ℤ Cursor → Type 0
reader_part P F s ps s' = Took P F (reader_of s) ps (reader_of s')

abbrev pub reader_stops : Plan → List Bool → State ℤ Cursor → List Place → Refusal → Type 0
reader_stops P F s ps r = Stops P F (reader_of s) ps r

-- A part of the writer's walk: safe wherever scratch fits, and right wherever the bands stand there.
use Rattle.std.specs.Prelude.{◌≡◌, Bool, List, ℕ, ◌+◌, ◌*◌, ◌≤◌, ℤ, length}
use Rattle.settings.specs.Limits.{file_ceiling}
use Rattle.bitstream.specs.declared.write.Tail.{Tail}
use Rattle.bitstream.specs.Writer.{Put}
use Rattle.predictor.specs.Differences.{image_of}
use Rattle.predictor.specs.Asks as asks
use Rattle.body.specs.Order.{Place}
use Rattle.body.specs.Body.{codes}
use Rattle.body_value.specs.declared.plan.Plan.{Plan}
use Rattle.body_walk.specs.Direction.{State}
use Rattle.body_walk.specs.Standing.{Fit, Stand, after, Along}

-- where a writer stands: the bands' slots, the end of the stream, the output
pub record WriterState : Type 0 where
  pub scratch : List ℤ
  pub tail : Tail
  pub out : List ℕ

abbrev pub writer_at : List ℤ → Tail → List ℕ → WriterState
writer_at scratch tail out = record { scratch = scratch; tail = tail; out = out }

-- the places ps may be written
pub record Writable (P : Plan) (samples : List ℤ) (w : WriterState) (ps : List Place) : Type 0 where
  pub image : asks.Given P.settings samples
  pub fit : Fit P w.scratch
  pub room : 8 * w.tail.at + w.tail.count + 64 * length ps ≤ file_ceiling

-- they are
pub record Moved (P : Plan) (samples : List ℤ) (w : WriterState) (ps : List Place) (w' : WriterState) : Type 0 where
  pub bits : List Bool
  pub put : Put w.tail w.out bits w'.tail w'.out
  pub few : length bits ≤ 64 * length ps
  pub fit : Fit P w'.scratch
  pub means : (tables : List ℤ) (f : ℕ → ℕ) → Stand P.settings tables (image_of P.settings.image samples) w.scratch f → Along f ps
      → (bits ≡ codes P.settings tables (image_of P.settings.image samples) ps)
      × Stand P.settings tables (image_of P.settings.image samples) w'.scratch (after f ps)

-- ---- as a direction of the walk

abbrev pub writer_ready : Plan → List ℤ → State ℕ Tail → List Place → Type 0
writer_ready P samples s ps = Writable P samples (writer_at s.scratch s.at s.filled) ps

abbrev pub writer_part : Plan → List ℤ → State ℕ Tail → List Place → State ℕ Tail → Type 0
writer_part P samples s ps s' = Moved P samples (writer_at s.scratch s.at s.filled) ps (writer_at s'.scratch s'.at s'.filled)

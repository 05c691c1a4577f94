-- The whole body, written and read.
use Rattle.std.specs.Prelude.{◌≡◌, Bool, List, ℕ, ◌^◌, ◌≤◌, ℤ, length, drop, Result, Ok, Err}
use Rattle.settings.specs.Limits.{file_ceiling}
use Rattle.bitstream.specs.declared.write.Tail.{Tail}
use Rattle.settings.specs.declared.Settings.{Settings}
use Rattle.refusals.specs.declared.Refusal.{Refusal}
use Rattle.refusals.specs.Reading.{got, refused}
use Rattle.predictor.specs.Asks as asks
use Rattle.body.specs.Order.{order}
use Rattle.body.specs.Body.{read_body}
use Rattle.body.specs.BodyLaws.{Good}
use Rattle.body_value.specs.declared.plan.Plan.{Plan}
use Rattle.body_value.specs.declared.Cursor.{Cursor}
use Rattle.body_walk.specs.Begun.{Tabled}

-- what writing it needs
pub record Starts (P : Plan) (tables samples scratch : List ℤ) (k : Tail) : Type 0 where
  pub tabled : Tabled P tables scratch
  pub image : asks.Given P.settings samples
  pub at : k.at ≤ 2 ^ 32

-- what reading it needs; the image may hold any samples in range, as zeros are
pub record ReadStarts (P : Plan) (tables samples scratch : List ℤ) (at : ℕ) : Type 0 where
  pub tabled : Tabled P tables scratch
  pub image : asks.Given P.settings samples
  pub at_most : at ≤ file_ceiling

-- it is read, up to bit a
pub record Whole (S : Settings) (tables : List ℤ) (F : List Bool) (at : ℕ) (samples : List ℤ) (a : ℕ) (samples' : List ℤ) : Type 0 where
  pub read : read_body S tables 0 (order S.image) samples (drop at F) ≡ got samples' (drop a F)
  pub good : Good S samples'
  pub inside : at ≤ length F → a ≤ length F

-- what the reader of the body answers
abbrev pub Answer : Settings → List ℤ → List Bool → ℕ → List ℤ → List ℤ → Result Cursor Refusal → Type 0
Answer S tables F at samples samples' (Ok c) = Whole S tables F at samples c.at samples'
Answer S tables F at samples samples' (Err r) = read_body S tables 0 (order S.image) samples (drop at F) ≡ refused r

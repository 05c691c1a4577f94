-- What the header's readers answer: each enum says what the definition of its part reads, and a position stands for the bits behind it.
use Rattle.std.specs.Prelude.{◌≡◌, Bool, List, ℕ, ◌≤◌, length, drop, Result, Ok, Err, ⊤}
use Rattle.refusals.specs.declared.Refusal.{Refusal}
use Rattle.refusals.specs.Reading.{Read, got, refused}
use Rattle.settings.specs.declared.Image.{Image}
use Rattle.settings.specs.declared.Predictor.{Predictor}
use Rattle.settings.specs.declared.Coder.{Coder}
use Rattle.settings.specs.declared.Settings.{Settings}
use Rattle.header.specs.Read.{Header, read_header}

-- what was read, or why not, by two constructors
abbrev pub answered : {A B : Type 0} → (A → B) → (Refusal → B) → Read A → B
answered value why (got a l) = value a
answered value why (refused w) = why w

-- the answer to the image's part
abbrev pub image_read : Read Image → Result Image Refusal
image_read = answered Ok Err

-- the answer to the predictor's part
abbrev pub predictor_read : Read Predictor → Result Predictor Refusal
predictor_read = answered Ok Err

-- the answer to the coder's part
abbrev pub coder_read : Read Coder → Result Coder Refusal
coder_read = answered Ok Err

-- a table is there and passes, or it does not
abbrev pub table_read : Read (List Bool) → Result ⊤ Refusal
table_read = answered (λ table. (Ok tt)) Err

-- the file F begins with a header of the settings S, up to the position `at`
pub record Begins (F : List Bool) (S : Settings) (at : ℕ) : Type 0 where
  pub header : Header
  pub read : read_header F ≡ got header (drop at F)
  pub settings : (header).settings ≡ S
  pub fits : at ≤ length F

-- an answer says the same as the definition
abbrev pub HeaderMeans : List Bool → Result (Settings × ℕ) Refusal → Type 0
HeaderMeans F (Ok (S, at)) = Begins F S at
HeaderMeans F (Err why) = read_header F ≡ refused why

-- The reader's answer from what its body and its end came to.
use Rattle.std.specs.Prelude.{Bool, List, ℕ, ◌^◌, ◌≤◌, ℤ, length, drop, Result, Ok, Err, ⊤}
use Rattle.refusals.specs.declared.Refusal.TheVariants.{BodyEnds, AfterEnd}
use Rattle.settings.specs.declared.Settings.{Settings}
use Rattle.settings.specs.Legal.{sample_count}
use Rattle.settings.specs.Fine.{Roomy}
use Rattle.header_reader.specs.Answers.{Begins}
use Rattle.body_value.specs.declared.Cursor.{Cursor}
use Rattle.closing.specs.declared.ending.WrongEnd.TheVariants.{TooShort, Behind}
use Rattle.closing.specs.declared.ending.WrongEnd.{WrongEnd}
use Rattle.refusals.specs.declared.Refusal.{Refusal}
use Rattle.closing.specs.Ending.{end_of}

-- the answer for each ending
unfoldable pub end_answer : Settings → Result ⊤ WrongEnd → Result Settings Refusal
end_answer S (Ok tt) = Ok S
end_answer S (Err TooShort) = Err (BodyEnds (sample_count S.image))
end_answer S (Err Behind) = Err (AfterEnd (sample_count S.image))

-- and for what the body came to
unfoldable pub answer_of : Settings → List Bool → Result Cursor Refusal → Result Settings Refusal
answer_of S F (Ok c) = end_answer S (end_of S.image.word c.at (drop c.at F))
answer_of S F (Err w) = Err w

-- the position behind the body lies in the file
abbrev pub Reached : List Bool → Result Cursor Refusal → Type 0
Reached F (Ok c) = (c.at ≤ length F) × (c.at ≤ 2 ^ 60)
Reached F (Err w) = Unit {0}

-- a header was read, and memory enough is lent
pub record Lendable (F : List Bool) (S : Settings) (at : ℕ) (scratch tables image : List ℤ) : Type 0 where
  pub begins : Begins F S at
  pub room : sample_count S.image ≤ length image
  pub areas : Roomy S (length scratch) (length tables)

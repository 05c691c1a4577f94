-- What the public calls answer, and what each lent area holds afterwards (document 01, "When the recorder says no").
use Rattle.std.specs.Prelude.{◌≡◌, cond, List, ◌++◌, ℕ, ℤ, pos, length, drop, replicate, Result, Ok, Err}
use Rattle.refusals.specs.declared.Refusal.{Refusal}
use Rattle.refusals.specs.Refusals.{clears}
use Rattle.refusals.specs.Reading.{Read, got, refused}
use Rattle.settings.specs.declared.Settings.{Settings}
use Rattle.cube.specs.File.{file, length_answer, packed}
use Rattle.cube.specs.Open.{Cube, Lent, opened}
use Rattle.cube.specs.Look.{looked}
use Rattle.cube.specs.Answers.{packed_number, packed_value, opened_number, opened_value, looked_value}

-- an area that held l: what is done from its start on, and the rest as it was
abbrev pub filled_from : {A : Type 0} → List A → List A → List A
filled_from done l = done ++ drop (length done) l

-- an area that held l, after a refusal: zero, or as it was
abbrev pub after_refusal : {A : Type 0} → A → Refusal → List A → List A
after_refusal zero w l = cond (clears w) (replicate (length l) zero) l

-- ---- pack

-- the output that held l
unfoldable pub out_after : Settings → List ℤ → List ℤ → Result ℕ Refusal → List ℕ → List ℕ
out_after S tables samples (Ok n) l = filled_from (file S tables samples) l
out_after S tables samples (Err w) l = after_refusal 0 w l

-- ---- open

-- the answer to what is read
unfoldable pub open_answer : Read Cube → Result Settings Refusal
open_answer (got c r) = Ok c.settings
open_answer (refused w) = Err w

-- the image area that held l
unfoldable pub image_after : Read Cube → List ℤ → List ℤ
image_after (got c r) l = filled_from c.samples l
image_after (refused w) l = after_refusal (pos 0) w l

-- the table area that held l
unfoldable pub tables_after : Read Cube → List ℤ → List ℤ
tables_after (got c r) l = filled_from c.tables l
tables_after (refused w) l = after_refusal (pos 0) w l

-- the lengths of what is lent
abbrev pub lent_of : List ℤ → List ℤ → List ℤ → Lent
lent_of scratch tables image = record { scratch = length scratch; tables = length tables; image = length image }

-- ---- the calls' statements, each with document 01's number and value

-- pack: what it answers, and what the output holds
pub record Packs (S : Settings) (tables samples scratch : List ℤ) (out : List ℕ) (r : Result ℕ Refusal) (out' : List ℕ) : Type 0 where
  pub answer : r ≡ packed S tables samples (length scratch) (length out)
  pub number_is : packed_number r ≡ packed_number (packed S tables samples (length scratch) (length out))
  pub value_is : packed_value r ≡ packed_value (packed S tables samples (length scratch) (length out))
  pub output : out' ≡ out_after S tables samples (packed S tables samples (length scratch) (length out)) out

-- length: what it answers
pub record Lengths (S : Settings) (tables samples scratch : List ℤ) (r : Result ℕ Refusal) : Type 0 where
  pub answer : r ≡ length_answer S tables samples (length scratch)
  pub number_is : packed_number r ≡ packed_number (length_answer S tables samples (length scratch))
  pub value_is : packed_value r ≡ packed_value (length_answer S tables samples (length scratch))

-- open: what it answers, and what the table and image areas hold
pub record Opens (bytes : List ℕ) (scratch tables image : List ℤ) (r : Result Settings Refusal) (tables' image' : List ℤ) : Type 0 where
  pub answer : r ≡ open_answer (opened (lent_of scratch tables image) bytes)
  pub number_is : opened_number r ≡ opened_number (open_answer (opened (lent_of scratch tables image) bytes))
  pub value_is : opened_value r ≡ opened_value (open_answer (opened (lent_of scratch tables image) bytes))
  pub table_area : tables' ≡ tables_after (opened (lent_of scratch tables image) bytes) tables
  pub image_area : image' ≡ image_after (opened (lent_of scratch tables image) bytes) image

-- look: what it answers
pub record Looks (bytes : List ℕ) (r : Result Settings Refusal) : Type 0 where
  pub answer : r ≡ looked bytes
  pub number_is : opened_number r ≡ opened_number (looked bytes)
  pub value_is : looked_value r ≡ looked_value (looked bytes)

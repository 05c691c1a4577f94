-- What the four calls of the boundary answer, and what each lent area holds afterwards.
use Rattle.std.specs.Prelude.{◌≡◌, List, [], ◌∷◌, ◌++◌, ℕ, ℤ, length, drop, Result, Ok, Err, ⊤}
use Rattle.bitstream.specs.Stream.{unpack}
use Rattle.refusals.specs.Tests.{first_hit}
use Rattle.refusals.specs.Reading.{Read, unless}
use Rattle.header.specs.Read.{read_header}
use Rattle.settings.specs.declared.Settings.{Settings}
use Rattle.cube.specs.File.{length_answer, packed}
use Rattle.cube.specs.Open.{Cube, Lent, opened}
use Rattle.cube.specs.Look.{look_answer}
use Rattle.cube.specs.Areas.{out_after, open_answer, image_after, tables_after, lent_of}
use Rattle.settings_slots.specs.Slots.{slot_count, settings_from, slots_of, too_short, slots_checked}
use Rattle.settings_slots.specs.Storing.{Small}
use Rattle.refusals.specs.declared.Refusal.{Refusal}
use Rattle.cube_c.specs.Answer.{packed_word, opened_word, looked_word}

-- ---- pack and length

-- what is answered, unless a test fails
abbrev pub answered_unless : Result ⊤ Refusal → Result ℕ Refusal → Result ℕ Refusal
answered_unless (Ok tt) r = r
answered_unless (Err w) r = Err w

-- what the length count answers
unfoldable pub boundary_length : List ℤ → List ℤ → List ℤ → ℕ → Result ℕ Refusal
boundary_length slots tables samples scratch =
    answered_unless (slots_checked slots) (length_answer (settings_from slots) tables samples scratch)

-- what packing answers, into so many bytes
unfoldable pub boundary_packed : List ℤ → List ℤ → List ℤ → ℕ → ℕ → Result ℕ Refusal
boundary_packed slots tables samples scratch room =
    answered_unless (slots_checked slots) (packed (settings_from slots) tables samples scratch room)

-- ---- open and look

-- what opening reads
unfoldable pub boundary_opened : List ℤ → Lent → List ℕ → Read Cube
boundary_opened slots lent bytes = unless (first_hit (too_short slots ∷ [])) (opened lent bytes)

-- what the look answers
unfoldable pub boundary_looked : List ℤ → List ℕ → Result Settings Refusal
boundary_looked slots bytes = look_answer (unless (first_hit (too_short slots ∷ [])) (read_header (unpack bytes)))

-- an answer whose settings, where there are any, slots can hold
unfoldable pub Storable : Result Settings Refusal → Type 0
Storable (Ok S) = Small S
Storable (Err w) = Unit {0}

-- the settings area that held l: 24 slots written, or untouched
unfoldable pub slots_after : Result Settings Refusal → List ℤ → List ℤ
slots_after (Ok S) l = slots_of S ++ drop slot_count l
slots_after (Err w) l = l

-- ---- the calls' statements

-- remulingka_pack: the word it answers, and what the output holds
pub record CPacks (slots tables samples scratch : List ℤ) (out : List ℕ) (r : ℕ) (out' : List ℕ) : Type 0 where
  pub answer : r ≡ packed_word (boundary_packed slots tables samples (length scratch) (length out))
  pub output : out' ≡ out_after (settings_from slots) tables samples (boundary_packed slots tables samples (length scratch) (length out)) out

-- remulingka_length: the word it answers
pub record CLengths (slots tables samples scratch : List ℤ) (r : ℕ) : Type 0 where
  pub answer : r ≡ packed_word (boundary_length slots tables samples (length scratch))

-- remulingka_open: the word it answers, and what the table, image and settings areas hold
pub record COpens (bytes : List ℕ) (scratch tables image slots : List ℤ) (r : ℕ) (tables' image' slots' : List ℤ) : Type 0 where
  pub answer : r ≡ opened_word (open_answer (boundary_opened slots (lent_of scratch tables image) bytes))
  pub table_area : tables' ≡ tables_after (boundary_opened slots (lent_of scratch tables image) bytes) tables
  pub image_area : image' ≡ image_after (boundary_opened slots (lent_of scratch tables image) bytes) image
  pub settings_area : slots' ≡ slots_after (open_answer (boundary_opened slots (lent_of scratch tables image) bytes)) slots

-- remulingka_look: the word it answers, and what the settings area holds
pub record CLooks (bytes : List ℕ) (slots : List ℤ) (r : ℕ) (slots' : List ℤ) : Type 0 where
  pub answer : r ≡ looked_word (boundary_looked slots bytes)
  pub settings_area : slots' ≡ slots_after (boundary_looked slots bytes) slots

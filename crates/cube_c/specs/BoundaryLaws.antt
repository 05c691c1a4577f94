-- The boundary's calls have one answer each, and every value in an answer is below 2^56.
use Rattle.std.specs.Prelude.{◌≡◌, refl, Bool, cond, List, [], ◌∷◌, ℕ, ◌+◌, ◌≤◌, ◌<◌, ℤ, length, ltb, eqb, Result, Ok, Err, ⊤}
use Rattle.std.proofs.Common.{sym, ◌∙◌, subst}
use Rattle.std.proofs.Math.Bool.{true, false}
use Rattle.std.proofs.Math.Decide.{dec_le}
use native.Mathlib.Omega.{arith}
use borrow.Author.Tests.{not-false, ltb-true, ltb-false, lt-ltb, le-ltb, eqb-true}
use Rattle.bitstream.specs.Stream.{unpack}
use Rattle.refusals.specs.declared.Refusal.{Refusal}
use Rattle.refusals.specs.declared.Refusal.TheVariants.{WrongCount, NoRoom}
use Rattle.refusals.specs.Refusals.{value}
use Rattle.refusals.specs.Tests.{Test, first_hit}
use Rattle.refusals.specs.TestLaws.{passes_all}
use Rattle.refusals.specs.Reading.{Read, got, refused}
use Rattle.settings.specs.declared.Settings.{Settings}
use Rattle.settings.specs.Legal.{settings_legal, limited, sample_count}
use Rattle.settings.specs.Limits.{most_samples, most_file_bytes}
use Rattle.settings.specs.Range.{first_out}
use Rattle.settings.specs.Checks.{check_pack}
use Rattle.settings.specs.CheckLaws.{fine}
use Rattle.header.specs.Read.{Header, read_header}
use Rattle.header.specs.Write.{used_settings}
use Rattle.header.specs.HeaderLaws.{read_header_lem}
use Rattle.cube.specs.File.{length_answer, packed}
use Rattle.cube.specs.Open.{Cube, Lent, opened}
use Rattle.cube.specs.Answers.{packed_value, opened_value, looked_value}
use Rattle.cube.specs.Areas.{open_answer}
use Rattle.cube.specs.SizeLaws.{samples_few, file_most}
use Rattle.cube.specs.Look.{look_answer, looked}
use Rattle.cube.specs.LookLaws.{opened_headed, header_refused}
use Rattle.cube.specs.ValueLaws.{Refuses, Most, opened_within}
use Rattle.settings_slots.specs.Slots.{slot_count, holds, settings_from, slots_checked}
use Rattle.cube_c.specs.Answer.{value_limit}
use Rattle.cube_c.specs.UsedLaws.{small}
use Rattle.cube_c.specs.Boundary.{answered_unless, boundary_length, boundary_packed, boundary_opened, boundary_looked, Storable, CPacks, CLengths, COpens, CLooks}

-- ---- one answer, and one content of each area

pub c_packs_one_way : {slots tables samples scratch : List ℤ} {out : List ℕ} {r r' : ℕ} {o o' : List ℕ}
    → CPacks slots tables samples scratch out r o → CPacks slots tables samples scratch out r' o' → (r ≡ r') × (o ≡ o')
c_packs_one_way p q = (p.answer ∙ sym q.answer, p.output ∙ sym q.output)

pub c_lengths_one_way : {slots tables samples scratch : List ℤ} {r r' : ℕ}
    → CLengths slots tables samples scratch r → CLengths slots tables samples scratch r' → r ≡ r'
c_lengths_one_way p q = p.answer ∙ sym q.answer

pub c_opens_one_way : {bytes : List ℕ} {scratch tables image slots : List ℤ} {r r' : ℕ} {t t' i i' s s' : List ℤ}
    → COpens bytes scratch tables image slots r t i s → COpens bytes scratch tables image slots r' t' i' s' → (r ≡ r') × (t ≡ t') × (i ≡ i') × (s ≡ s')
c_opens_one_way p q = (
  p.answer ∙ sym q.answer,
  p.table_area ∙ sym q.table_area,
  p.image_area ∙ sym q.image_area,
  p.settings_area ∙ sym q.settings_area,
)

pub c_looks_one_way : {bytes : List ℕ} {slots : List ℤ} {r r' : ℕ} {s s' : List ℤ}
    → CLooks bytes slots r s → CLooks bytes slots r' s' → (r ≡ r') × (s ≡ s')
c_looks_one_way p q = (p.answer ∙ sym q.answer, p.settings_area ∙ sym q.settings_area)

-- ---- a list of tests

-- where a test fails and none before it does, its refusal's value is below n
abbrev Tests : ℕ → List Test → Type 0
Tests n [] = Unit {0}
Tests n (t ∷ ts) = (t.fails ≡ true → value t.refusal < n) × (t.fails ≡ false → Tests n ts)

hit_small : (n : ℕ) (ts : List Test) (w : Refusal) → Tests n ts → first_hit ts ≡ Err w → value w < n
unfolding first_hit
hit_small n [] w s e = let z : ◌≡◌ {A = ℕ} 0 1 = cc in absurd (omega arith)
hit_small n (t ∷ ts) w s e = go t.fails refl (hit_small n ts w) e
  where
    go : (b : Bool) → t.fails ≡ b → (Tests n ts → first_hit ts ≡ Err w → value w < n)
        → cond b (Err t.refusal) (first_hit ts) ≡ Err w → value w < n
    go true p f q = let k : t.refusal ≡ w = cc in rw k at (s.0 p)
    go false p f q = f (s.1 p) q

pub slots_small : (slots : List ℤ) (w : Refusal) → slots_checked slots ≡ Err w → value w < 1
unfolding slots_checked value
slots_small slots w e = hit_small 1 _ w (λ _. omega arith, λ _. (λ _. omega arith, λ _. tt)) e

-- slots that pass are enough, and the record can hold them
pub slots_pass : (slots : List ℤ) → slots_checked slots ≡ (Ok tt) → (slot_count ≤ length slots) × (holds slots ≡ true)
unfolding slots_checked
slots_pass slots e =
    let h = passes_all _ e in
    (ltb-false (length slots) slot_count h.0, not-false (holds slots) h.1.0)

-- ---- pack and length

module _ (S : Settings) (tables samples : List ℤ) (scratch : ℕ) where
  -- an index comes only after the house limit and the count have passed
  check_small : (w : Refusal) → check_pack S tables samples scratch ≡ Err w → value w ≤ most_file_bytes
  unfolding check_pack value
  check_small w e =
      let h : value w < most_file_bytes + 1 =
      hit_small (most_file_bytes + 1) _ w (
        λ _. omega arith,
        λ _. (
          λ _. omega arith,
          λ small. (
            λ _. omega arith,
            λ counted. (
              λ _. omega arith,
              λ _. (
                λ _. omega arith,
                λ _. (
                  λ out.
                      let k = ltb-true (first_out S.image samples) (length samples) out in
                      let n = eqb-true (length samples) (sample_count S.image) (not-false (eqb (length samples) (sample_count S.image)) counted) in
                      let m = samples_few S (not-false (limited S.image) small) in
                      omega arith,
                  λ _. tt,
                ),
              ),
            ),
          ),
        ),
      ) e in
      omega arith

  length_by : (x : Result ⊤ Refusal) → check_pack S tables samples scratch ≡ x → packed_value (length_answer S tables samples scratch) ≤ most_file_bytes
  unfolding length_answer packed_value
  length_by (Ok tt) e = let f = fine S tables samples scratch e in rw e (file_most S tables samples f.legal f.small)
  length_by (Err w) e = rw e (check_small w e)

  pub length_small : packed_value (length_answer S tables samples scratch) ≤ most_file_bytes
  length_small = length_by (check_pack S tables samples scratch) refl

  packed_by : (room : ℕ) (x : Result ℕ Refusal) → length_answer S tables samples scratch ≡ x → packed_value x ≤ most_file_bytes → packed_value (packed S tables samples scratch room) ≤ most_file_bytes
  unfolding packed packed_value value
  packed_by room (Ok n) e h = rw e (go (ltb room n))
    where
      go : (b : Bool) → packed_value (cond b (Err (NoRoom n)) (Ok n)) ≤ most_file_bytes
      go true = h
      go false = h
  packed_by room (Err w) e h = rw e h

  pub packed_small : (room : ℕ) → packed_value (packed S tables samples scratch room) ≤ most_file_bytes
  packed_small room = packed_by room (length_answer S tables samples scratch) refl length_small

-- an answer behind the boundary's own tests
unless_small : (x : Result ⊤ Refusal) (r : Result ℕ Refusal) → ((w : Refusal) → x ≡ Err w → value w < 1) → packed_value r ≤ most_file_bytes → packed_value (answered_unless x r) < value_limit
unfolding packed_value
unless_small (Ok tt) r f h = omega arith
unless_small (Err w) r f h = let k = f w refl in omega arith

pub c_packed_small : (slots tables samples : List ℤ) (scratch room : ℕ) → packed_value (boundary_packed slots tables samples scratch room) < value_limit
unfolding boundary_packed
c_packed_small slots tables samples scratch room =
    unless_small (slots_checked slots) _ (slots_small slots) (packed_small (settings_from slots) tables samples scratch room)

pub c_length_small : (slots tables samples : List ℤ) (scratch : ℕ) → packed_value (boundary_length slots tables samples scratch) < value_limit
unfolding boundary_length
c_length_small slots tables samples scratch =
    unless_small (slots_checked slots) _ (slots_small slots) (length_small (settings_from slots) tables samples scratch)

-- ---- open and look

-- settings that a reader gives
pub record Given (S : Settings) : Type 0 where
  pub legal : settings_legal S ≡ true
  pub within : limited S.image ≡ true
  pub named : used_settings S ≡ S

pub header_given : (l r : List Bool) (h : Header) → read_header l ≡ got h r → Given h.settings
header_given l r h e = let k = read_header_lem l r h e in record { legal = k.legal; within = k.limited; named = k.settings }

pub opened_given : (lent : Lent) (bytes : List ℕ) (c : Cube) (r : List Bool) → opened lent bytes ≡ got c r → Given c.settings
opened_given lent bytes c r e = let h = opened_headed lent bytes c r e in subst Given h.settings (header_given (unpack bytes) h.behind h.header h.read)

-- too few slots decide, and enough leave the rest to the reader
pub opened_short : (slots : List ℤ) (lent : Lent) (bytes : List ℕ) → length slots < slot_count → boundary_opened slots lent bytes ≡ refused WrongCount
unfolding boundary_opened first_hit
opened_short slots lent bytes h = rw (lt-ltb (length slots) slot_count h)

pub opened_long : (slots : List ℤ) (lent : Lent) (bytes : List ℕ) → slot_count ≤ length slots → boundary_opened slots lent bytes ≡ opened lent bytes
unfolding boundary_opened first_hit
opened_long slots lent bytes h = rw (le-ltb (length slots) slot_count h)

pub looked_short : (slots : List ℤ) (bytes : List ℕ) → length slots < slot_count → boundary_looked slots bytes ≡ Err WrongCount
unfolding boundary_looked first_hit look_answer
looked_short slots bytes h = rw (lt-ltb (length slots) slot_count h)

pub looked_long : (slots : List ℤ) (bytes : List ℕ) → slot_count ≤ length slots → boundary_looked slots bytes ≡ looked bytes
unfolding boundary_looked first_hit looked
looked_long slots bytes h = rw (le-ltb (length slots) slot_count h)

-- what a reader answers is small, and its settings fit the slots
pub record Fit (value : Result Settings Refusal → ℕ) (r : Result Settings Refusal) : Type 0 where
  pub value_small : value r < value_limit
  pub storable : Storable r

open_fits : (x : Read Cube) → Refuses (Most most_samples) x → ((c : Cube) (r : List Bool) → x ≡ got c r → Given c.settings) → Fit opened_value (open_answer x)
unfolding open_answer opened_value Storable
open_fits (got c r) w g =
    let k = g c r refl in
    record { value_small = let m = samples_few c.settings k.within in omega arith; storable = small c.settings k.legal k.named }
open_fits (refused v) w g = record { value_small = let m = w.said v refl in omega arith; storable = tt }

pub opened_fits : (lent : Lent) (bytes : List ℕ) → Fit opened_value (open_answer (opened lent bytes))
opened_fits lent bytes = open_fits (opened lent bytes) (opened_within lent bytes) (opened_given lent bytes)

look_fits : (x : Read Header) → ((w : Refusal) → x ≡ refused w → value w ≤ most_samples) → ((h : Header) (r : List Bool) → x ≡ got h r → Given h.settings) → Fit looked_value (look_answer x)
unfolding look_answer looked_value Storable
look_fits (got h r) w g = let k = g h r refl in record { value_small = omega arith; storable = small h.settings k.legal k.named }
look_fits (refused v) w g = record { value_small = let m = w v refl in omega arith; storable = tt }

pub looked_fits : (bytes : List ℕ) → Fit looked_value (looked bytes)
unfolding looked
looked_fits bytes =
    let lent : Lent = record { scratch = 0; tables = 0; image = 0 } in
    look_fits (read_header (unpack bytes)) (λ w e. (opened_within lent bytes).said w (header_refused lent bytes w e)) (λ h r. header_given (unpack bytes) r h)

-- every value of the boundary's answers
pub c_opened_small : (slots : List ℤ) (lent : Lent) (bytes : List ℕ) → opened_value (open_answer (boundary_opened slots lent bytes)) < value_limit
unfolding open_answer opened_value value
c_opened_small slots lent bytes = go (dec_le slot_count (length slots))
  where
    go : Dec (slot_count ≤ length slots) → opened_value (open_answer (boundary_opened slots lent bytes)) < value_limit
    go (yes h) = rw (opened_long slots lent bytes h) (opened_fits lent bytes).value_small
    go (no h) = rw (opened_short slots lent bytes (omega arith)) (omega arith)

pub c_looked_small : (slots : List ℤ) (bytes : List ℕ) → looked_value (boundary_looked slots bytes) < value_limit
unfolding looked_value value
c_looked_small slots bytes = go (dec_le slot_count (length slots))
  where
    go : Dec (slot_count ≤ length slots) → looked_value (boundary_looked slots bytes) < value_limit
    go (yes h) = rw (looked_long slots bytes h) (looked_fits bytes).value_small
    go (no h) = rw (looked_short slots bytes (omega arith)) (omega arith)

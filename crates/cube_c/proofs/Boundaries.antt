-- The boundary's statements from those of the cube's calls and the outcomes of the boundary's own tests.
use Rattle.std.specs.Prelude.{⊤, Result, Ok, Err}
use mathlib.Core.Path.{◌≡◌, refl, sym, ◌∙◌, ap, subst}
use mathlib.Core.Bool.{Bool, true, false, cond, not}
use mathlib.Core.List.{List}
use Prim.Native.Nat.{ℕ, ◌≤◌, ◌<◌}
use native.Mathlib.Omega.{arith}
use lib.IntN.{ℤ}
use lib.ListN.{length}
use lib.Dec.{ltb}
use Rattle.refusals.specs.declared.Refusal.{Refusal}
use Rattle.refusals.specs.declared.Refusal.TheVariants.{IllegalSetting, WrongCount}
use Rattle.refusals.specs.Refusals.{value, clears}
use Rattle.refusals.specs.Tests.{first_hit}
use Rattle.settings.specs.declared.Settings.{Settings}
use Rattle.cube.specs.File.{length_answer}
use Rattle.cube.specs.Look.{looked}
use Rattle.cube.specs.Answers.{packed_number, packed_value, opened_number, opened_value, looked_value}
use Rattle.cube.specs.Areas.{out_after, open_answer, image_after, tables_after, lent_of, Packs, Lengths, Opens}
use Rattle.settings_slots.specs.Slots.{slot_count, holds, settings_from, slots_checked}
use Rattle.cube_c.specs.Answer.{value_limit, refusal_word, packed_word, opened_word, looked_word}
use Rattle.cube_c.specs.Boundary.{boundary_length, boundary_packed, slots_after, CPacks, CLengths, COpens, CLooks}
use Rattle.cube_c.specs.BoundaryLaws.{slots_small, length_small, packed_small, opened_short, opened_long, looked_short, looked_long, Fit, opened_fits, looked_fits}

-- ---- pack and length

-- the boundary's own refusals leave the output alone
slots_clear_nothing : (slots : List ℤ) (w : Refusal) → slots_checked slots ≡ Err w → clears w ≡ false
unfolding slots_checked first_hit clears
slots_clear_nothing slots w e = go (ltb (length slots) slot_count) (not (holds slots)) e
  where
    go : (a b : Bool) → ◌≡◌ {A = Result ⊤ Refusal} (cond a (Err WrongCount) (cond b (Err IllegalSetting) (Ok tt))) (Err w) → clears w ≡ false
    go true b q = let k : WrongCount ≡ w = cc in subst (λ (v : Refusal). clears v ≡ false) k refl
    go false true q = let k : IllegalSetting ≡ w = cc in subst (λ (v : Refusal). clears v ≡ false) k refl
    go false false q = let z : ◌≡◌ {A = ℕ} 0 1 = cc in absurd (omega arith)

pub packs_refused : (slots tables samples scratch : List ℤ) (out : List ℕ) (w : Refusal) {r : ℕ} → slots_checked slots ≡ Err w → r ≡ refusal_word w
    → CPacks slots tables samples scratch out r out
unfolding boundary_packed packed_word packed_number packed_value out_after
packs_refused slots tables samples scratch out w e p =
    let k = slots_clear_nothing slots w e in
    record { answer = rw e p; output = rw (e, k) }

pub packs_passed : (slots tables samples scratch : List ℤ) (out : List ℕ) {S : Settings} {p : Result ℕ Refusal} {r : ℕ} {o : List ℕ} → slots_checked slots ≡ (Ok tt)
    → S ≡ settings_from slots → Packs S tables samples scratch out p o → r ≡ packed_word p → CPacks slots tables samples scratch out r o
unfolding boundary_packed
packs_passed slots tables samples scratch out {S} {p} {r} {o} e s k q =
    let m = subst (λ (T : Settings). Packs T tables samples scratch out p o) s k in
    record { answer = rw e (q ∙ ap packed_word m.answer); output = rw e m.output }

pub lengths_refused : (slots tables samples scratch : List ℤ) (w : Refusal) {r : ℕ} → slots_checked slots ≡ Err w → r ≡ refusal_word w
    → CLengths slots tables samples scratch r
unfolding boundary_length packed_word packed_number packed_value
lengths_refused slots tables samples scratch w e p = record { answer = rw e p }

pub lengths_passed : (slots tables samples scratch : List ℤ) {S : Settings} {p : Result ℕ Refusal} {r : ℕ} → slots_checked slots ≡ (Ok tt) → S ≡ settings_from slots
    → Lengths S tables samples scratch p → r ≡ packed_word p → CLengths slots tables samples scratch r
unfolding boundary_length
lengths_passed slots tables samples scratch e s k q =
    record { answer = rw e (q ∙ ap packed_word (k.answer ∙ ap (λ (T : Settings). length_answer T tables samples (length scratch)) s)) }

-- ---- open and look

pub opens_short : (bytes : List ℕ) (scratch tables image slots : List ℤ) {r : ℕ} → length slots < slot_count → r ≡ refusal_word WrongCount
    → COpens bytes scratch tables image slots r tables image slots
unfolding open_answer opened_word opened_number opened_value tables_after image_after slots_after clears
opens_short bytes scratch tables image slots h q =
    let e = opened_short slots (lent_of scratch tables image) bytes h in
    record { answer = rw e q; table_area = rw e; image_area = rw e; settings_area = rw e }

pub opens_long : (bytes : List ℕ) (scratch tables image slots : List ℤ) {p : Result Settings Refusal} {r : ℕ} {t i s : List ℤ} → slot_count ≤ length slots
    → Opens bytes scratch tables image p t i → r ≡ opened_word p → s ≡ slots_after p slots → COpens bytes scratch tables image slots r t i s
opens_long bytes scratch tables image slots h k q m =
    let e = opened_long slots (lent_of scratch tables image) bytes h in
    record {
      answer = rw e (q ∙ ap opened_word k.answer);
      table_area = rw e k.table_area;
      image_area = rw e k.image_area;
      settings_area = rw e (m ∙ ap (λ (x : Result Settings Refusal). slots_after x slots) k.answer);
    }

pub looks_short : (bytes : List ℕ) (slots : List ℤ) {r : ℕ} → length slots < slot_count → r ≡ refusal_word WrongCount → CLooks bytes slots r slots
unfolding looked_word opened_number looked_value slots_after
looks_short bytes slots h q = let e = looked_short slots bytes h in record { answer = rw e q; settings_area = rw e }

pub looks_long : (bytes : List ℕ) (slots : List ℤ) {p : Result Settings Refusal} {r : ℕ} {s : List ℤ} → slot_count ≤ length slots → p ≡ looked bytes
    → r ≡ looked_word p → s ≡ slots_after p slots → CLooks bytes slots r s
looks_long bytes slots h k q m =
    let e = k ∙ sym (looked_long slots bytes h) in
    record { answer = q ∙ ap looked_word e; settings_area = m ∙ ap (λ (x : Result Settings Refusal). slots_after x slots) e }

-- ---- what the words ask: each value is small, and settings fit the slots

pub refused_small : (slots : List ℤ) (w : Refusal) → slots_checked slots ≡ Err w → value w < value_limit
refused_small slots w e = let k = slots_small slots w e in omega arith

pub packs_small : (S : Settings) (tables samples scratch : List ℤ) (out : List ℕ) {p : Result ℕ Refusal} {o : List ℕ} → Packs S tables samples scratch out p o → packed_value p < value_limit
packs_small S tables samples scratch out k = let m = packed_small S tables samples (length scratch) (length out) in rw k.answer (omega arith)

pub lengths_small : (S : Settings) (tables samples scratch : List ℤ) {p : Result ℕ Refusal} → Lengths S tables samples scratch p → packed_value p < value_limit
lengths_small S tables samples scratch k = let m = length_small S tables samples (length scratch) in rw k.answer (omega arith)

pub opens_fit : (bytes : List ℕ) (scratch tables image : List ℤ) {p : Result Settings Refusal} {t i : List ℤ} → Opens bytes scratch tables image p t i → Fit opened_value p
opens_fit bytes scratch tables image k = rw k.answer (opened_fits (lent_of scratch tables image) bytes)

pub looks_fit : (bytes : List ℕ) {p : Result Settings Refusal} → p ≡ looked bytes → Fit looked_value p
looks_fit bytes k = rw k (looked_fits bytes)

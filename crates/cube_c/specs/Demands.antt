-- Demands 1 to 3 at the boundary, as far as they say more than the cube's own: words, the tests of the slots, and the settings area.
use Rattle.std.specs.Prelude.{◌≡◌, Bool, true, false, ◌||◌, List, ◌∷◌, ◌++◌, ℕ, ◌*◌, ◌<◌, ◌≤◌, ℤ, pos, length, take, drop, replicate, eqb, Result, Ok, Err, ⊤}
use Rattle.std.proofs.Math.Path.{refl, ap, subst}
use Rattle.std.proofs.Common.{sym, ◌∙◌, arith, length-append}
use Rattle.std.proofs.Math.Decide.{dec_le}
use Rattle.bitstream.specs.Stream.{Bytes, unpack}
use Rattle.refusals.specs.declared.Refusal.{Refusal}
use Rattle.refusals.specs.declared.Refusal.TheVariants.{IllegalSetting, WrongCount}
use Rattle.refusals.specs.Refusals.{number, value, clears}
use Rattle.refusals.specs.Reading.{Read, got, refused}
use Rattle.refusals.specs.RefusalLaws.{refusals_closed}
use Rattle.refusals.specs.Calls.{among, length_refuses, pack_refuses, open_refuses, look_refuses}
use Rattle.settings.specs.declared.Settings.{Settings}
use Rattle.settings.specs.Legal.{settings_legal, sample_count}
use Rattle.settings.specs.Tables.{table_stride, scratch_stride}
use Rattle.settings.specs.Fine.{Fine}
use Rattle.header.specs.Tables.{used_tables}
use Rattle.header.specs.Write.{used_settings}
use Rattle.cube.specs.File.{file, packed}
use Rattle.cube.specs.Open.{Cube, opened}
use Rattle.cube.specs.Answers.{packed_number, packed_value, opened_number, opened_value, looked_value}
use Rattle.cube.specs.Areas.{filled_from, after_refusal, out_after, open_answer, tables_after, image_after, lent_of, Packs, Opens}
use Rattle.cube.specs.Terms.{Allowed, Enough, OpenedTo}
use Rattle.cube.specs.CallLaws.{Listed, hit_tests, length_listed, packed_listed, opened_listed, header_listed}
use Rattle.cube.specs.LookLaws.{looked_refused}
use Rattle.cube.specs.OpenLaws.{answer_refused, opens_file, opens_allowed}
use Rattle.cube.specs.Demands.{packs_exactly, no_room_exactly, look_opened, one_image_one_file, packs_again}
use Rattle.settings_slots.specs.Slots.{slot_count, holds, settings_from, slots_of, slots_checked}
use Rattle.cube_c.specs.Answer.{value_limit, word_of, number_in, value_in, packed_word, opened_word, looked_word}
use Rattle.cube_c.specs.Boundary.{boundary_length, boundary_packed, boundary_opened, boundary_looked, slots_after, CPacks, CLengths, COpens, CLooks}
use Rattle.cube_c.specs.BoundaryLaws.{c_packed_small, c_length_small, c_opened_small, c_looked_small, opened_short, opened_long, looked_short, looked_long}
use Rattle.cube_c.specs.UsedLaws.{settings_back}
use Rattle.cube_c.specs.SlotLaws.{number_in_lem, value_in_lem, six, slots_short, slots_unfit, slots_fit, from_front, slots_hold}

-- ================ demand 1

-- "Any bytes, any settings, any lent memory get an answer", and one: `c_packs_one_way` and its like in BoundaryLaws.
-- A word says its number and its value, and no other
pub word_tells : (n v n' v' : ℕ) → v < value_limit → v' < value_limit → word_of n v ≡ word_of n' v' → (n ≡ n') × (v ≡ v')
word_tells n v n' v' h h' e = (sym (number_in_lem n v h) ∙ ap number_in e ∙ number_in_lem n' v' h', sym (value_in_lem n v h) ∙ ap value_in e ∙ value_in_lem n' v' h')

-- the numbers and values that the calls' words say
module _ {slots tables samples scratch : List ℤ} {out : List ℕ} {r : ℕ} {o : List ℕ} (p : CPacks slots tables samples scratch out r o) where
  abbrev answered : Result ℕ Refusal
  answered = boundary_packed slots tables samples (length scratch) (length out)

  pub pack_number : number_in r ≡ packed_number answered
  unfolding packed_word
  pack_number = ap number_in p.answer ∙ number_in_lem _ _ (c_packed_small slots tables samples (length scratch) (length out))

  pub pack_value : value_in r ≡ packed_value answered
  unfolding packed_word
  pack_value = ap value_in p.answer ∙ value_in_lem _ _ (c_packed_small slots tables samples (length scratch) (length out))

pub open_number : {bytes : List ℕ} {scratch tables image slots : List ℤ} {r : ℕ} {t i s : List ℤ} → COpens bytes scratch tables image slots r t i s
    → number_in r ≡ opened_number (open_answer (boundary_opened slots (lent_of scratch tables image) bytes))
unfolding opened_word
open_number {bytes} {scratch} {tables} {image} {slots} p = ap number_in p.answer ∙ number_in_lem _ _ (c_opened_small slots (lent_of scratch tables image) bytes)

-- "The list of refusals is closed": success 0, or a number of the call's list; a slot that the record cannot hold is 1, a settings list that is too short 3
or_more : (a b : Bool) → b ≡ true → (a || b) ≡ true
or_more true b e = refl
or_more false b e = e

packed_among : (l : List ℕ) (x : Result ℕ Refusal) → ((w : Refusal) → x ≡ Err w → Listed l w) → among (0 ∷ l) (packed_number x) ≡ true
unfolding among packed_number
packed_among l (Ok n) h = refl
packed_among l (Err w) h = or_more (eqb (number w) 0) (among l (number w)) (h w refl)

opened_among : (l : List ℕ) (x : Result Settings Refusal) → ((w : Refusal) → x ≡ Err w → Listed l w) → among (0 ∷ l) (opened_number x) ≡ true
unfolding among opened_number
opened_among l (Ok S) h = refl
opened_among l (Err w) h = or_more (eqb (number w) 0) (among l (number w)) (h w refl)

module _ (slots tables samples : List ℤ) (scratch : ℕ) where
  slots_listed : (l : List ℕ) → Listed l WrongCount → Listed l IllegalSetting → (w : Refusal) → slots_checked slots ≡ Err w → Listed l w
  unfolding slots_checked
  slots_listed l h3 h1 w e = hit_tests (Listed l) _ w (h3, (h1, tt)) e

  pack_listed : (room : ℕ) (w : Refusal) → boundary_packed slots tables samples scratch room ≡ Err w → Listed pack_refuses w
  unfolding boundary_packed among number
  pack_listed room w e = go (slots_checked slots) refl
    where
      go : (x : Result ⊤ Refusal) → slots_checked slots ≡ x → Listed pack_refuses w
      go (Ok tt) q = packed_listed (settings_from slots) tables samples scratch room w (rw q at e)
      go (Err v) q =
          let k : boundary_packed slots tables samples scratch room ≡ Err v = rw q in
          let m : v ≡ w = cc in
          subst (Listed pack_refuses) m (slots_listed pack_refuses refl refl v q)

  count_listed : (w : Refusal) → boundary_length slots tables samples scratch ≡ Err w → Listed length_refuses w
  unfolding boundary_length among number
  count_listed w e = go (slots_checked slots) refl
    where
      go : (x : Result ⊤ Refusal) → slots_checked slots ≡ x → Listed length_refuses w
      go (Ok tt) q = length_listed (settings_from slots) tables samples scratch w (rw q at e)
      go (Err v) q =
          let k : boundary_length slots tables samples scratch ≡ Err v = rw q in
          let m : v ≡ w = cc in
          subst (Listed length_refuses) m (slots_listed length_refuses refl refl v q)

pub c_pack_closed : {slots tables samples scratch : List ℤ} {out : List ℕ} {r : ℕ} {o : List ℕ} → CPacks slots tables samples scratch out r o → among (0 ∷ pack_refuses) (number_in r) ≡ true
c_pack_closed {slots} {tables} {samples} {scratch} {out} p =
    ap (among (0 ∷ pack_refuses)) (pack_number p) ∙ packed_among pack_refuses _ (pack_listed slots tables samples (length scratch) (length out))

pub c_length_closed : {slots tables samples scratch : List ℤ} {r : ℕ} → CLengths slots tables samples scratch r → among (0 ∷ length_refuses) (number_in r) ≡ true
unfolding packed_word
c_length_closed {slots} {tables} {samples} {scratch} p =
    ap (among (0 ∷ length_refuses)) (ap number_in p.answer ∙ number_in_lem _ _ (c_length_small slots tables samples (length scratch)))
    ∙ packed_among length_refuses _ (count_listed slots tables samples (length scratch))

pub c_open_closed : {bytes : List ℕ} {scratch tables image slots : List ℤ} {r : ℕ} {t i s : List ℤ} → COpens bytes scratch tables image slots r t i s
    → among (0 ∷ open_refuses) (number_in r) ≡ true
unfolding open_answer among number
c_open_closed {bytes} {scratch} {tables} {image} {slots} p =
    ap (among (0 ∷ open_refuses)) (open_number p) ∙ opened_among open_refuses _ (λ w e. go w e (dec_le slot_count (length slots)))
  where
    go : (w : Refusal) → open_answer (boundary_opened slots (lent_of scratch tables image) bytes) ≡ Err w → Dec (slot_count ≤ length slots) → Listed open_refuses w
    go w e (yes h) = opened_listed (lent_of scratch tables image) bytes w (answer_refused _ w (rw (opened_long slots (lent_of scratch tables image) bytes h) at e))
    go w e (no h) =
        let k = ap open_answer (opened_short slots (lent_of scratch tables image) bytes (omega arith)) in
        let m : WrongCount ≡ w = cc in
        subst (Listed open_refuses) m refl

pub look_number : {bytes : List ℕ} {slots : List ℤ} {r : ℕ} {s : List ℤ} → CLooks bytes slots r s → number_in r ≡ opened_number (boundary_looked slots bytes)
unfolding looked_word
look_number {bytes} {slots} p = ap number_in p.answer ∙ number_in_lem _ _ (c_looked_small slots bytes)

pub c_look_closed : {bytes : List ℕ} {slots : List ℤ} {r : ℕ} {s : List ℤ} → CLooks bytes slots r s → among (0 ∷ 3 ∷ look_refuses) (number_in r) ≡ true
unfolding among number
c_look_closed {bytes} {slots} p = ap (among (0 ∷ 3 ∷ look_refuses)) (look_number p) ∙ opened_among (3 ∷ look_refuses) _ (λ w e. go w e (dec_le slot_count (length slots)))
  where
    go : (w : Refusal) → boundary_looked slots bytes ≡ Err w → Dec (slot_count ≤ length slots) → Listed (3 ∷ look_refuses) w
    go w e (yes h) = or_more (eqb (number w) 3) (among look_refuses (number w)) (header_listed (unpack bytes) w (looked_refused bytes w (sym (looked_long slots bytes h) ∙ e)))
    go w e (no h) = let k = looked_short slots bytes (omega arith) in let m : WrongCount ≡ w = cc in subst (Listed (3 ∷ look_refuses)) m refl

-- a settings list that is too short is refused 3, and a slot that the record cannot hold 1, with the output as it was
pub c_pack_slots : {slots tables samples scratch : List ℤ} {out : List ℕ} {r : ℕ} {o : List ℕ} → CPacks slots tables samples scratch out r o
    → (length slots < slot_count → (r ≡ word_of 3 0) × (o ≡ out)) × (slot_count ≤ length slots → holds slots ≡ false → (r ≡ word_of 1 0) × (o ≡ out))
unfolding boundary_packed packed_word packed_number packed_value out_after number value clears
c_pack_slots {slots} p = (
  λ h. let e = slots_short slots h in (rw e at p.answer, rw e at p.output),
  λ h u. let e = slots_unfit slots h u in (rw e at p.answer, rw e at p.output),
)

-- "After a refusal no half image and no half file is left": each area is zero or as it was, by the number (`refusals_closed`), and the settings area is as it was
pub c_pack_refused : {slots tables samples scratch : List ℤ} {out : List ℕ} {r : ℕ} {o : List ℕ} → CPacks slots tables samples scratch out r o → (number_in r ≡ 0 → ⊥)
    → (w : Refusal) × (number_in r ≡ number w) × (o ≡ after_refusal 0 w out)
unfolding packed_number out_after
c_pack_refused {slots} {tables} {samples} {scratch} {out} {r} {o} p z = go (boundary_packed slots tables samples (length scratch) (length out)) (pack_number p) p.output
  where
    go : (x : Result ℕ Refusal) → number_in r ≡ packed_number x → o ≡ out_after (settings_from slots) tables samples x out → (w : Refusal) × (number_in r ≡ number w) × (o ≡ after_refusal 0 w out)
    go (Ok n) e f = absurd (z e)
    go (Err w) e f = (w, e, f)

pub c_open_refused : {bytes : List ℕ} {scratch tables image slots : List ℤ} {r : ℕ} {t i s : List ℤ} → COpens bytes scratch tables image slots r t i s → (number_in r ≡ 0 → ⊥)
    → (w : Refusal) × (number_in r ≡ number w) × (t ≡ after_refusal (pos 0) w tables) × (i ≡ after_refusal (pos 0) w image) × (s ≡ slots)
unfolding open_answer opened_number tables_after image_after slots_after
c_open_refused {bytes} {scratch} {tables} {image} {slots} {r} {t} {i} {s} p z =
    go (boundary_opened slots (lent_of scratch tables image) bytes) (open_number p) p.table_area p.image_area p.settings_area
  where
    go : (x : Read Cube) → number_in r ≡ opened_number (open_answer x) → t ≡ tables_after x tables → i ≡ image_after x image → s ≡ slots_after (open_answer x) slots
        → (w : Refusal) × (number_in r ≡ number w) × (t ≡ after_refusal (pos 0) w tables) × (i ≡ after_refusal (pos 0) w image) × (s ≡ slots)
    go (got c l) e f g h = absurd (z e)
    go (refused w) e f g h = (w, e, f, g, h)

-- ================ demand 2

-- behind slots that pass, the boundary's packing is the cube's
pub c_packs_is : {slots tables samples scratch : List ℤ} {out : List ℕ} {r : ℕ} {o : List ℕ} → CPacks slots tables samples scratch out r o → slots_checked slots ≡ (Ok tt)
    → (x : Result ℕ Refusal) × Packs (settings_from slots) tables samples scratch out x o × (r ≡ packed_word x)
unfolding boundary_packed
c_packs_is {slots} {tables} {samples} {scratch} {out} p e =
    (packed (settings_from slots) tables samples (length scratch) (length out), record { answer = refl; number_is = refl; value_is = refl; output = rw e at p.output }, rw e at p.answer)

-- neither success nor 6 comes from the tests of the slots
slots_passed : {slots tables samples scratch : List ℤ} {out : List ℕ} {r : ℕ} {o : List ℕ} → CPacks slots tables samples scratch out r o
    → (number_in r ≡ 0 → slots_checked slots ≡ (Ok tt)) × (number_in r ≡ 6 → slots_checked slots ≡ (Ok tt))
unfolding boundary_packed packed_number number slots_checked
slots_passed {slots} {tables} {samples} {scratch} {out} {r} p = go (slots_checked slots) refl
  where
    Other : Refusal → Type 0
    Other w = (number w ≡ 0 → ⊥) × (number w ≡ 6 → ⊥)

    go : (x : Result ⊤ Refusal) → slots_checked slots ≡ x → (number_in r ≡ 0 → slots_checked slots ≡ (Ok tt)) × (number_in r ≡ 6 → slots_checked slots ≡ (Ok tt))
    go (Ok tt) e = (λ _. e, λ _. e)
    go (Err w) e =
        let n : number_in r ≡ number w = rw e at (pack_number p) in
        let h = hit_tests Other _ w ((λ q. omega arith, λ q. omega arith), ((λ q. omega arith, λ q. omega arith), tt)) e in
        (λ z. absurd (h.0 (sym n ∙ z)), λ z. absurd (h.1 (sym n ∙ z)))

-- packed exactly when the slots pass, all tests pass and the file fits
pub c_packs_exactly : {slots tables samples scratch : List ℤ} {out : List ℕ} {r : ℕ} {o : List ℕ} → CPacks slots tables samples scratch out r o
    → (slots_checked slots ≡ (Ok tt) → Fine (settings_from slots) tables samples (length scratch) → length (file (settings_from slots) tables samples) ≤ length out
    → (r ≡ word_of 0 (length (file (settings_from slots) tables samples))) × (o ≡ filled_from (file (settings_from slots) tables samples) out))
    × (number_in r ≡ 0 → (slots_checked slots ≡ (Ok tt)) × Fine (settings_from slots) tables samples (length scratch)
    × (value_in r ≡ length (file (settings_from slots) tables samples)) × (value_in r ≤ length out))
unfolding packed_word packed_number packed_value boundary_packed
c_packs_exactly {slots} {tables} {samples} {scratch} {out} {r} p = (
  λ e f h. let k = c_packs_is p e in let m = (packs_exactly k.1).0 f h in (k.2 ∙ ap packed_word m.0, m.1),
  λ n. let e = (slots_passed p).0 n in let k = c_packs_is p e in by_answer e k.0 k.1.answer (sym (rw e at (pack_number p)) ∙ n) (rw e at (pack_value p)),
)
  where
    answer : Result ℕ Refusal
    answer = packed (settings_from slots) tables samples (length scratch) (length out)

    by_answer : slots_checked slots ≡ (Ok tt) → (x : Result ℕ Refusal) → x ≡ answer → packed_number answer ≡ 0 → value_in r ≡ packed_value answer
        → (slots_checked slots ≡ (Ok tt)) × Fine (settings_from slots) tables samples (length scratch) × (value_in r ≡ length (file (settings_from slots) tables samples)) × (value_in r ≤ length out)
    by_answer e (Ok k) q n v =
        let m = (packs_exactly (c_packs_is p e).1).1 k ((c_packs_is p e).1.answer ∙ sym q) in
        let d : value_in r ≡ k = v ∙ ap packed_value (sym q) in
        (e, m.0, d ∙ m.1, let l = m.2 in omega arith)
    by_answer e (Err w) q n v = let c = (refusals_closed w).0 in let z = ap packed_number q ∙ n in absurd (omega arith)

-- refused 6 exactly when the slots pass, all tests pass and the file is longer than the output, which is then all zero
pub c_no_room_exactly : {slots tables samples scratch : List ℤ} {out : List ℕ} {r : ℕ} {o : List ℕ} → CPacks slots tables samples scratch out r o
    → (slots_checked slots ≡ (Ok tt) → Fine (settings_from slots) tables samples (length scratch) → length out < length (file (settings_from slots) tables samples)
    → (r ≡ word_of 6 (length (file (settings_from slots) tables samples))) × (o ≡ replicate (length out) 0))
    × (number_in r ≡ 6 → (slots_checked slots ≡ (Ok tt)) × Fine (settings_from slots) tables samples (length scratch)
    × (value_in r ≡ length (file (settings_from slots) tables samples)) × (length out < value_in r))
unfolding packed_word packed_number packed_value number value boundary_packed
c_no_room_exactly {slots} {tables} {samples} {scratch} {out} {r} p = (
  λ e f h. let k = c_packs_is p e in let m = (no_room_exactly k.1).0 f h in (k.2 ∙ ap packed_word m.0, m.1),
  λ n. let e = (slots_passed p).1 n in let k = c_packs_is p e in by_answer e k.0 k.1.answer (sym (rw e at (pack_number p)) ∙ n) (rw e at (pack_value p)),
)
  where
    answer : Result ℕ Refusal
    answer = packed (settings_from slots) tables samples (length scratch) (length out)

    by_answer : slots_checked slots ≡ (Ok tt) → (x : Result ℕ Refusal) → x ≡ answer → packed_number answer ≡ 6 → value_in r ≡ packed_value answer
        → (slots_checked slots ≡ (Ok tt)) × Fine (settings_from slots) tables samples (length scratch) × (value_in r ≡ length (file (settings_from slots) tables samples)) × (length out < value_in r)
    by_answer e (Ok k) q n v = let z = ap packed_number q ∙ n in absurd (omega arith)
    by_answer e (Err w) q n v =
        let s = six w (ap packed_number q ∙ n) in
        let m = (no_room_exactly (c_packs_is p e).1).1 (value w) ((c_packs_is p e).1.answer ∙ sym q ∙ ap Err s) in
        let d : value_in r ≡ value w = v ∙ ap packed_value (sym q) in
        (e, m.0, d ∙ m.1, let l = m.2 in omega arith)

-- ================ demand 3

-- success is an opening by the cube, with the samples' number in the word and the settings in the 24 slots
pub c_opens_is : {bytes : List ℕ} {scratch area image slots : List ℤ} {r : ℕ} {t i s : List ℤ} → COpens bytes scratch area image slots r t i s → slot_count ≤ length slots
    → (x : Result Settings Refusal) × Opens bytes scratch area image x t i × (r ≡ opened_word x) × (s ≡ slots_after x slots)
c_opens_is {bytes} {scratch} {area} {image} {slots} p h =
    let e = opened_long slots (lent_of scratch area image) bytes h in (
      open_answer (opened (lent_of scratch area image) bytes),
      record { answer = refl; number_is = refl; value_is = refl; table_area = rw e at p.table_area; image_area = rw e at p.image_area },
      rw e at p.answer,
      rw e at p.settings_area,
    )

pub c_opens_success : {bytes : List ℕ} {scratch area image slots : List ℤ} {r : ℕ} {t i s : List ℤ} → COpens bytes scratch area image slots r t i s → number_in r ≡ 0
    → (S : Settings) × Opens bytes scratch area image (Ok S) t i × (r ≡ word_of 0 (sample_count S.image)) × (s ≡ slots_of S ++ drop slot_count slots)
unfolding open_answer opened_word opened_number opened_value slots_after number
c_opens_success {bytes} {scratch} {area} {image} {slots} {r} {t} {i} {s} p z = go (dec_le slot_count (length slots))
  where
    by_answer : (x : Result Settings Refusal) → Opens bytes scratch area image x t i → r ≡ opened_word x → s ≡ slots_after x slots → opened_number x ≡ 0
        → (S : Settings) × Opens bytes scratch area image (Ok S) t i × (r ≡ word_of 0 (sample_count S.image)) × (s ≡ slots_of S ++ drop slot_count slots)
    by_answer (Ok S) o a b n = (S, o, a, b)
    by_answer (Err w) o a b n = let c = (refusals_closed w).0 in absurd (omega arith)

    go : Dec (slot_count ≤ length slots) → (S : Settings) × Opens bytes scratch area image (Ok S) t i × (r ≡ word_of 0 (sample_count S.image)) × (s ≡ slots_of S ++ drop slot_count slots)
    go (yes h) = let k = c_opens_is p h in by_answer k.0 k.1 k.2 k.3 (ap opened_number k.1.answer ∙ sym (rw (opened_long slots (lent_of scratch area image) bytes h) at (open_number p)) ∙ z)
    go (no h) = let n : number_in r ≡ 3 = open_number p ∙ ap (λ x. opened_number (open_answer x)) (opened_short slots (lent_of scratch area image) bytes (omega arith)) in absurd (omega arith)

-- the settings area names the settings
pub slots_name : (S : Settings) (rest s : List ℤ) → settings_legal S ≡ true → used_settings S ≡ S → s ≡ slots_of S ++ rest → settings_from s ≡ S
slots_name S rest s l u e = ap settings_from e ∙ from_front S rest ∙ settings_back S l u

-- "Bytes are opened exactly when they are the file of some legal settings and image": what opens is such a file, with its settings in the slots;
-- such a file opens, with memory enough; and what is refused then is none
pub c_opens_exactly : {bytes : List ℕ} {scratch area image slots : List ℤ} {r : ℕ} {t i s : List ℤ} → Bytes bytes → COpens bytes scratch area image slots r t i s
    → (number_in r ≡ 0 → (S : Settings) × (tables : List ℤ) × (samples : List ℤ) × OpenedTo bytes S tables samples area image t i
    × (r ≡ word_of 0 (sample_count S.image)) × (s ≡ slots_of S ++ drop slot_count slots) × (settings_from s ≡ S))
    × (slot_count ≤ length slots → (S : Settings) (tables samples : List ℤ) → Allowed S tables samples → Enough S (lent_of scratch area image) → file S tables samples ≡ bytes
    → (number_in r ≡ 0) × (s ≡ slots_of (used_settings S) ++ drop slot_count slots) × (t ≡ filled_from (used_tables S tables) area) × (i ≡ filled_from samples image))
    × ((number_in r ≡ 0 → ⊥) → slot_count ≤ length slots → (S : Settings) (tables samples : List ℤ) → Allowed S tables samples → Enough S (lent_of scratch area image)
    → file S tables samples ≡ bytes → ⊥)
unfolding opened_number slots_after
c_opens_exactly {bytes} {scratch} {area} {image} {slots} {r} {t} {i} {s} b p = (
  λ z. let k = c_opens_success p z in let d = opens_file b k.1 k.0 refl in (k.0, d.0, d.1, d.2, k.2, k.3, slots_name k.0 _ _ d.2.allowed.legal d.2.named k.3),
  back,
  λ z h S tables samples a m f. z (back h S tables samples a m f).0,
)
  where
    back : slot_count ≤ length slots → (S : Settings) (tables samples : List ℤ) → Allowed S tables samples → Enough S (lent_of scratch area image) → file S tables samples ≡ bytes
        → (number_in r ≡ 0) × (s ≡ slots_of (used_settings S) ++ drop slot_count slots) × (t ≡ filled_from (used_tables S tables) area) × (i ≡ filled_from samples image)
    back h S tables samples a m f =
        let k = c_opens_is p h in
        let g = opens_allowed k.1 S tables samples a m f in (
          open_number p ∙ rw (opened_long slots (lent_of scratch area image) bytes h) (ap opened_number (sym k.1.answer ∙ g.0)),
          k.3 ∙ ap (λ x. slots_after x slots) g.0,
          g.1,
          g.2,
        )

-- the look leaves the slots that opening does, where it opens
pub c_look_opened : {bytes : List ℕ} {scratch area image slots slots' : List ℤ} {r r' : ℕ} {t i s s' : List ℤ} → COpens bytes scratch area image slots r t i s → number_in r ≡ 0
    → CLooks bytes slots' r' s' → slot_count ≤ length slots' → (r' ≡ word_of 0 0) × (take slot_count s' ≡ take slot_count s)
unfolding looked_word opened_number looked_value slots_after slots_of
c_look_opened {bytes} {slots = slots} {slots'} p z l h =
    let k = c_opens_success p z in
    let e : boundary_looked slots' bytes ≡ Ok k.0 = looked_long slots' bytes h ∙ (look_opened (record { answer = refl; number_is = refl; value_is = refl }) k.1).0 k.0 refl in (
      l.answer ∙ ap looked_word e,
      ap (take slot_count) (l.settings_area ∙ ap (λ x. slots_after x slots') e) ∙ sym (ap (take slot_count) k.3),
    )

-- "One image, one file": two files that opened to the same slots, table values and samples are equal
pub c_one_image_one_file : {b b' : List ℕ} {scratch area image slots scratch' area' image' slots' : List ℤ} {r r' : ℕ} {t i s t' i' s' : List ℤ} → Bytes b → Bytes b'
    → COpens b scratch area image slots r t i s → COpens b' scratch' area' image' slots' r' t' i' s' → number_in r ≡ 0 → number_in r' ≡ 0
    → settings_from s ≡ settings_from s'
    → take (table_stride * (settings_from s).image.nz) t ≡ take (table_stride * (settings_from s).image.nz) t'
    → take (sample_count (settings_from s).image) i ≡ take (sample_count (settings_from s).image) i' → b ≡ b'
c_one_image_one_file {b' = b'} {scratch' = scratch'} {area' = area'} {image' = image'} {t = t} {i} {s} {t' = t'} {i'} {s'} g g' p p' z z' e et ei =
    let k = c_opens_success p z in
    let k' = c_opens_success p' z' in
    let d = (opens_file g k.1 k.0 refl).2 in
    let d' = (opens_file g' k'.1 k'.0 refl).2 in
    let n : settings_from s ≡ k.0 = slots_name k.0 _ s d.allowed.legal d.named k.3 in
    let n' : settings_from s' ≡ k'.0 = slots_name k'.0 _ s' d'.allowed.legal d'.named k'.3 in
    one_image_one_file g g' k.1
    (subst (λ (S : Settings). Opens b' scratch' area' image' (Ok S) t' i') (sym n' ∙ sym e ∙ n) k'.1)
    (subst (λ (S : Settings). take (table_stride * S.image.nz) t ≡ take (table_stride * S.image.nz) t') n et)
    (subst (λ (S : Settings). take (sample_count S.image) i ≡ take (sample_count S.image) i') n ei)

-- "Packing again what was opened gives the same bytes": from the slots, the table area and the samples as `remulingka_open` left them
pub c_packs_again : {bytes : List ℕ} {scratch area image slots : List ℤ} {r : ℕ} {t i s scratch' : List ℤ} {out : List ℕ} {r' : ℕ} {o : List ℕ} → Bytes bytes
    → COpens bytes scratch area image slots r t i s → number_in r ≡ 0 → scratch_stride * (settings_from s).image.nz ≤ length scratch' → length bytes ≤ length out
    → CPacks s t (take (sample_count (settings_from s).image) i) scratch' out r' o → (r' ≡ word_of 0 (length bytes)) × (o ≡ filled_from bytes out)
unfolding packed_word packed_number packed_value slots_of
c_packs_again {slots = slots} {t = t} {i} {s} {scratch'} {out} {o = o} g p z m h q =
    let k = c_opens_success p z in
    let d = (opens_file g k.1 k.0 refl).2 in
    let n : settings_from s ≡ k.0 = slots_name k.0 _ s d.allowed.legal d.named k.3 in
    let l : slot_count ≤ length s = let e = ap length k.3 ∙ length-append (slots_of k.0) (drop slot_count slots) in omega arith in
    let f : holds s ≡ true = ap holds k.3 ∙ slots_hold k.0 _ d.allowed.legal in
    let c = c_packs_is q (slots_fit s l f) in
    let a = packs_again g k.1
    (subst (λ (S : Settings). scratch_stride * S.image.nz ≤ length scratch') n m) h
    (subst (λ (S : Settings). Packs S t (take (sample_count S.image) i) scratch' out c.0 o) n c.1) in
    (c.2 ∙ ap packed_word a.0, a.1)

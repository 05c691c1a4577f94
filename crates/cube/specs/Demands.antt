-- Demands 1 to 3, each sentence a theorem about what the calls promise: `Packs`, `Opens`, the length's and the look's answers.
use Rattle.std.specs.Prelude.{◌≡◌, refl, true, ◌||◌, List, ℕ, ◌*◌, ◌<◌, ◌≤◌, ℤ, pos, length, take, replicate, eqb, Result, Ok, Err}
use Rattle.std.proofs.Common.{sym, ◌∙◌, ap, ap₂, subst, arith, take_at}
use Rattle.bitstream.specs.Stream.{Bytes}
use Rattle.refusals.specs.declared.Refusal.{Refusal}
use Rattle.refusals.specs.declared.Refusal.TheVariants.{NoRoom}
use Rattle.refusals.specs.Refusals.{number, clears}
use Rattle.refusals.specs.RefusalLaws as table
use Rattle.refusals.specs.Reading.{Read}
use Rattle.settings.specs.declared.Settings.{Settings}
use Rattle.settings.specs.Legal.{settings_legal, sample_count}
use Rattle.settings.specs.Tables.{table_stride, scratch_stride}
use Rattle.settings.specs.Checks.{areas_short}
use Rattle.settings.specs.Fine.{Fine, Roomy}
use Rattle.header.specs.Parts.{used_image}
use Rattle.header.specs.Tables.{used_tables}
use Rattle.header.specs.Write.{used_settings}
use Rattle.cube.specs.File.{file}
use Rattle.cube.specs.Open.{Cube, Lent, opened}
use Rattle.cube.specs.Areas.{filled_from, after_refusal, out_after, open_answer, image_after, tables_after, lent_of, Packs, Lengths, Opens, Looks}
use Rattle.cube.specs.Terms.{Allowed, Enough, OpenedTo}
use Rattle.refusals.specs.Calls.{among, length_refuses, pack_refuses, open_refuses, look_refuses}
use Rattle.cube.specs.CallLaws.{length_listed, packed_listed, opened_listed, header_listed}
use Rattle.cube.specs.PackLaws.{fine_allowed, allowed_fine, packed_fits, packed_too_long, packed_only, no_room_only, length_fine, length_only}
use Rattle.cube.specs.IgnoreLaws.{length_ignores, packed_ignores, output_ignores, file_used}
use Rattle.cube.specs.FileLaws.{refused_no_file, opened_file}
use Rattle.cube.specs.LookLaws.{looked_opened, looked_refused, header_refused}
use Rattle.cube.specs.OpenLaws.{answer_refused, answer_settings, opens_allowed, opens_file, tables_held, samples_held, again_fine, file_held}

-- ================ demand 1

-- "Any bytes, any settings, any lent memory get an answer": a call's statement, which requires nothing, allows one answer and one content of each area
pub packs_one_way : {S : Settings} {tables samples scratch : List ℤ} {out : List ℕ} {r r' : Result ℕ Refusal} {o o' : List ℕ}
    → Packs S tables samples scratch out r o → Packs S tables samples scratch out r' o' → (r ≡ r') × (o ≡ o')
packs_one_way p q = (p.answer ∙ sym q.answer, p.output ∙ sym q.output)

pub length_one_way : {S : Settings} {tables samples scratch : List ℤ} {r r' : Result ℕ Refusal} → Lengths S tables samples scratch r → Lengths S tables samples scratch r' → r ≡ r'
length_one_way p q = p.answer ∙ sym q.answer

pub opens_one_way : {bytes : List ℕ} {scratch tables image : List ℤ} {r r' : Result Settings Refusal} {t t' i i' : List ℤ}
    → Opens bytes scratch tables image r t i → Opens bytes scratch tables image r' t' i' → (r ≡ r') × (t ≡ t') × (i ≡ i')
opens_one_way p q = (p.answer ∙ sym q.answer, p.table_area ∙ sym q.table_area, p.image_area ∙ sym q.image_area)

pub look_one_way : {bytes : List ℕ} {r r' : Result Settings Refusal} → Looks bytes r → Looks bytes r' → r ≡ r'
look_one_way p q = p.answer ∙ sym q.answer

-- "The list of refusals is closed": eighteen refusals, and those that clear are 6, 9, 10 and 11
pub refusals_closed : (w : Refusal) → (1 ≤ number w) × (number w ≤ 18) × (clears w ≡ (eqb (number w) 6 || eqb (number w) 9 || eqb (number w) 10 || eqb (number w) 11))
refusals_closed = table.refusals_closed

-- call by call: pack refuses 1 to 6, the length count 1 to 5, open 3 to 5 and 7 to 12, the look 4, 7, 8 and 12
pub pack_closed : {S : Settings} {tables samples scratch : List ℤ} {out : List ℕ} {r : Result ℕ Refusal} {o : List ℕ} (w : Refusal)
    → Packs S tables samples scratch out r o → r ≡ Err w → among pack_refuses (number w) ≡ true
pack_closed {S} {tables} {samples} {scratch} {out} w p e = packed_listed S tables samples (length scratch) (length out) w (sym p.answer ∙ e)

pub length_closed : {S : Settings} {tables samples scratch : List ℤ} {r : Result ℕ Refusal} (w : Refusal)
    → Lengths S tables samples scratch r → r ≡ Err w → among length_refuses (number w) ≡ true
length_closed {S} {tables} {samples} {scratch} w p e = length_listed S tables samples (length scratch) w (sym p.answer ∙ e)

pub open_closed : {bytes : List ℕ} {scratch tables image : List ℤ} {r : Result Settings Refusal} {t i : List ℤ} (w : Refusal)
    → Opens bytes scratch tables image r t i → r ≡ Err w → among open_refuses (number w) ≡ true
open_closed {bytes} {scratch} {tables} {image} w p e = opened_listed (lent_of scratch tables image) bytes w (answer_refused _ w (sym p.answer ∙ e))

pub look_closed : {bytes : List ℕ} {r : Result Settings Refusal} (w : Refusal) → Looks bytes r → r ≡ Err w → among look_refuses (number w) ≡ true
look_closed {bytes} w p e = header_listed _ w (looked_refused bytes w (sym p.answer ∙ e))

-- "After a refusal no half image and no half file is left": each area is zero or as it was
pub pack_refused : {S : Settings} {tables samples scratch : List ℤ} {out : List ℕ} {r : Result ℕ Refusal} {o : List ℕ} (w : Refusal)
    → Packs S tables samples scratch out r o → r ≡ Err w → o ≡ after_refusal 0 w out
unfolding out_after
pack_refused {S} {tables} {samples} {scratch} {out} w p e = p.output ∙ ap (λ (x : Result ℕ Refusal). out_after S tables samples x out) (sym p.answer ∙ e)

pub open_refused : {bytes : List ℕ} {scratch tables image : List ℤ} {r : Result Settings Refusal} {t i : List ℤ} (w : Refusal)
    → Opens bytes scratch tables image r t i → r ≡ Err w → (t ≡ after_refusal (pos 0) w tables) × (i ≡ after_refusal (pos 0) w image)
unfolding tables_after image_after
open_refused {bytes} {scratch} {tables} {image} w p e =
    let x = answer_refused (opened (lent_of scratch tables image) bytes) w (sym p.answer ∙ e) in
    (p.table_area ∙ ap (λ (y : Read Cube). tables_after y tables) x, p.image_area ∙ ap (λ (y : Read Cube). image_after y image) x)

-- ================ demand 2

-- "Every legal image is packed unless the file is longer than the space lent": packed exactly when all tests pass and the file fits;
-- the output then holds the file that the standard gives, and nothing behind it changed
pub packs_exactly : {S : Settings} {tables samples scratch : List ℤ} {out : List ℕ} {r : Result ℕ Refusal} {o : List ℕ} → Packs S tables samples scratch out r o
    → (Fine S tables samples (length scratch) → length (file S tables samples) ≤ length out
    → (r ≡ Ok (length (file S tables samples))) × (o ≡ filled_from (file S tables samples) out))
    × ((n : ℕ) → r ≡ Ok n → Fine S tables samples (length scratch) × (n ≡ length (file S tables samples)) × (n ≤ length out))
unfolding out_after
packs_exactly {S} {tables} {samples} {scratch} {out} p = (
  λ f h. let e = packed_fits S tables samples (length scratch) (length out) f h in (p.answer ∙ e, p.output ∙ ap (λ (x : Result ℕ Refusal). out_after S tables samples x out) e),
  λ n e. packed_only S tables samples (length scratch) (length out) n (sym p.answer ∙ e),
)

-- that, and nothing else, is refused as no room: 6 exactly when all tests pass and the file is longer than the output, which is then all zero
pub no_room_exactly : {S : Settings} {tables samples scratch : List ℤ} {out : List ℕ} {r : Result ℕ Refusal} {o : List ℕ} → Packs S tables samples scratch out r o
    → (Fine S tables samples (length scratch) → length out < length (file S tables samples)
    → (r ≡ Err (NoRoom (length (file S tables samples)))) × (o ≡ replicate (length out) 0))
    × ((n : ℕ) → r ≡ Err (NoRoom n) → Fine S tables samples (length scratch) × (n ≡ length (file S tables samples)) × (length out < n))
unfolding out_after clears
no_room_exactly {S} {tables} {samples} {scratch} {out} p = (
  λ f h. let e = packed_too_long S tables samples (length scratch) (length out) f h in (p.answer ∙ e, p.output ∙ ap (λ (x : Result ℕ Refusal). out_after S tables samples x out) e),
  λ n e. no_room_only S tables samples (length scratch) (length out) n (sym p.answer ∙ e),
)

-- a length is counted exactly when all tests pass, and it is the file's
pub length_exactly : {S : Settings} {tables samples scratch : List ℤ} {r : Result ℕ Refusal} → Lengths S tables samples scratch r
    → (Fine S tables samples (length scratch) → r ≡ Ok (length (file S tables samples)))
    × ((n : ℕ) → r ≡ Ok n → Fine S tables samples (length scratch) × (n ≡ length (file S tables samples)))
length_exactly {S} {tables} {samples} {scratch} p =
    (λ f. p.answer ∙ length_fine S tables samples (length scratch) f, λ n e. length_only S tables samples (length scratch) n (sym p.answer ∙ e))

-- the tests pass exactly for what is allowed, with memory enough
pub fine_exactly : (S : Settings) (tables samples : List ℤ) (scratch : ℕ)
    → (Fine S tables samples scratch → Allowed S tables samples × Roomy S scratch (length tables))
    × (Allowed S tables samples → Roomy S scratch (length tables) → Fine S tables samples scratch)
fine_exactly S tables samples scratch = (λ f. (fine_allowed S tables samples scratch f, f.room), allowed_fine S tables samples scratch)

-- "M, Q, K where they are no settings, and slots not used, are ignored": what is packed depends on settings and slots in use alone, and on whether memory is enough
pub packs_ignore : {S S' : Settings} {tables tables' samples scratch scratch' : List ℤ} {out : List ℕ} {r r' : Result ℕ Refusal} {o o' : List ℕ}
    → used_settings S ≡ used_settings S' → used_tables S tables ≡ used_tables S' tables'
    → areas_short S (length scratch) (length tables) ≡ areas_short S' (length scratch') (length tables')
    → Packs S tables samples scratch out r o → Packs S' tables' samples scratch' out r' o' → (r ≡ r') × (o ≡ o')
packs_ignore {S} {S'} {tables} {tables'} {samples} {scratch} {scratch'} {out} s t a p q = (
  p.answer ∙ packed_ignores S S' tables tables' samples (length scratch) (length scratch') s t a (length out) ∙ sym q.answer,
  p.output ∙ output_ignores S S' tables tables' samples (length scratch) (length scratch') s t a (length out) out ∙ sym q.output,
)

pub lengths_ignore : {S S' : Settings} {tables tables' samples scratch scratch' : List ℤ} {r r' : Result ℕ Refusal}
    → used_settings S ≡ used_settings S' → used_tables S tables ≡ used_tables S' tables'
    → areas_short S (length scratch) (length tables) ≡ areas_short S' (length scratch') (length tables')
    → Lengths S tables samples scratch r → Lengths S' tables' samples scratch' r' → r ≡ r'
lengths_ignore {S} {S'} {tables} {tables'} {samples} {scratch} {scratch'} s t a p q =
    p.answer ∙ length_ignores S S' tables tables' samples (length scratch) (length scratch') s t a ∙ sym q.answer

-- "Opening gives back every sample and setting": what a packer left in the output opens, with memory enough, to what was packed, with what is not used as 0
pub opens_packed : {S : Settings} {tables samples scratch : List ℤ} {out o : List ℕ} {n : ℕ} {scratch' area image : List ℤ} {r : Result Settings Refusal} {t i : List ℤ}
    → Packs S tables samples scratch out (Ok n) o → Enough S (lent_of scratch' area image) → Opens (take n o) scratch' area image r t i
    → (r ≡ Ok (used_settings S)) × (t ≡ filled_from (used_tables S tables) area) × (i ≡ filled_from samples image)
opens_packed {S} {tables} {samples} {scratch} {out} {o} {n} p m q =
    let k = (packs_exactly p).1 n refl in
    let s = ((packs_exactly p).0 k.0 (let e = k.1 in let l = k.2 in omega arith)).1 in
    opens_allowed q S tables samples (fine_allowed S tables samples (length scratch) k.0) m (sym (ap (take n) s ∙ take_at (file S tables samples) _ n (sym k.1)))

-- the look shows the settings of a file that was packed, those that open answers, and refuses as open does
pub look_packed : (S : Settings) (tables samples : List ℤ) {r : Result Settings Refusal} → Allowed S tables samples → Looks (file S tables samples) r → r ≡ Ok (used_settings S)
look_packed S tables samples a p =
    let lent : Lent = record { scratch = scratch_stride * S.image.nz; tables = table_stride * S.image.nz; image = sample_count S.image } in
    let m : Enough S lent = record { image = omega arith; areas = record { scratch_holds = omega arith; tables_hold = omega arith } } in
    p.answer ∙ looked_opened lent (file S tables samples) _ _ (opened_file S tables samples lent a.legal a.within a.entries a.good m)

pub look_opened : {bytes : List ℕ} {scratch area image : List ℤ} {r : Result Settings Refusal} {t i : List ℤ} {s : Result Settings Refusal} → Looks bytes s → Opens bytes scratch area image r t i
    → ((S : Settings) → r ≡ Ok S → s ≡ Ok S) × ((w : Refusal) → s ≡ Err w → r ≡ Err w)
unfolding open_answer
look_opened {bytes} {scratch} {area} {image} l p = (
  λ S q. let a = answer_settings _ S (sym p.answer ∙ q) in l.answer ∙ looked_opened (lent_of scratch area image) bytes a.0 a.1 a.2 ∙ ap Ok a.3,
  λ w q. p.answer ∙ ap open_answer (header_refused (lent_of scratch area image) bytes w (looked_refused bytes w (sym l.answer ∙ q))),
)

-- ================ demand 3

-- "Bytes are opened exactly when they are, to the last fill bit, the file that the standard gives for some legal settings and image":
-- what opens is such a file, and the areas hold its tables and samples; such a file opens to them; and what is refused, with memory enough, is none
pub opens_exactly : {bytes : List ℕ} {scratch area image : List ℤ} {r : Result Settings Refusal} {t i : List ℤ} → Bytes bytes → Opens bytes scratch area image r t i
    → ((S : Settings) → r ≡ Ok S → (tables : List ℤ) × (samples : List ℤ) × OpenedTo bytes S tables samples area image t i)
    × ((S : Settings) (tables samples : List ℤ) → Allowed S tables samples → Enough S (lent_of scratch area image) → file S tables samples ≡ bytes
    → (r ≡ Ok (used_settings S)) × (t ≡ filled_from (used_tables S tables) area) × (i ≡ filled_from samples image))
    × ((w : Refusal) → r ≡ Err w → (S : Settings) (tables samples : List ℤ) → Allowed S tables samples → Enough S (lent_of scratch area image)
    → file S tables samples ≡ bytes → ⊥)
opens_exactly {bytes} {scratch} {area} {image} b p = (
  opens_file b p,
  opens_allowed p,
  λ w e S tables samples a m f.
      refused_no_file (lent_of scratch area image) bytes w (answer_refused _ w (sym p.answer ∙ e)) S tables samples a.legal a.within a.entries a.good m f,
)

-- "One image, one file": two files that opened to the same settings, table values and samples are equal
pub one_image_one_file : {b b' : List ℕ} {S : Settings} {scratch area image scratch' area' image' t i t' i' : List ℤ} → Bytes b → Bytes b'
    → Opens b scratch area image (Ok S) t i → Opens b' scratch' area' image' (Ok S) t' i'
    → take (table_stride * S.image.nz) t ≡ take (table_stride * S.image.nz) t' → take (sample_count S.image) i ≡ take (sample_count S.image) i' → b ≡ b'
one_image_one_file {S = S} g g' p p' e f =
    let d = (opens_file g p S refl).2 in
    let d' = (opens_file g' p' S refl).2 in
    sym d.file_is ∙ ap₂ (file S) (sym (tables_held d) ∙ e ∙ tables_held d') (sym (samples_held d) ∙ f ∙ samples_held d') ∙ d'.file_is

-- and under a packer's choice of settings, whatever M, Q, K and the slots are where they are not used, the file is the one that is packed
pub one_choice_one_file : {b : List ℕ} {scratch area image t i : List ℤ} (S : Settings) (tables samples : List ℤ) → settings_legal S ≡ true → Bytes b
    → Opens b scratch area image (Ok (used_settings S)) t i
    → take (table_stride * S.image.nz) t ≡ used_tables S tables → take (sample_count S.image) i ≡ samples → b ≡ file S tables samples
unfolding used_settings used_image sample_count
one_choice_one_file S tables samples legal g p e f =
    let d = (opens_file g p (used_settings S) refl).2 in
    sym d.file_is ∙ ap₂ (file (used_settings S)) (sym (tables_held d) ∙ e) (sym (samples_held d) ∙ f) ∙ file_used S tables samples legal

-- "Packing again what was opened gives the same bytes": from the settings answered, the table area and the samples as `open` left them
pub packs_again : {bytes : List ℕ} {S : Settings} {scratch area image t i scratch' : List ℤ} {out : List ℕ} {r : Result ℕ Refusal} {o : List ℕ} → Bytes bytes
    → Opens bytes scratch area image (Ok S) t i → scratch_stride * S.image.nz ≤ length scratch' → length bytes ≤ length out
    → Packs S t (take (sample_count S.image) i) scratch' out r o → (r ≡ Ok (length bytes)) × (o ≡ filled_from bytes out)
packs_again {bytes} {S} {out = out} {r} {o} g p m h q =
    let d = (opens_file g p S refl).2 in
    subst (λ (b : List ℕ). (r ≡ Ok (length b)) × (o ≡ filled_from b out)) (file_held d)
    ((packs_exactly q).0 (again_fine d _ m) (let e = ap length (file_held d) in omega arith))

-- The three ways of packing: refused by a test, stored, or without room and cleared.
use Rattle.std.specs.Prelude.{Result, Ok, Err}
use mathlib.Core.Path.{◌≡◌, refl, sym, ◌∙◌, ap}
use mathlib.Core.Bool.{Bool, false, cond}
use mathlib.Core.List.{List, ◌++◌}
use Prim.Native.Nat.{ℕ, ◌<◌, ◌≤◌}
use native.Mathlib.Omega.{arith}
use lib.IntN.{ℤ}
use lib.ListN.{length, drop, replicate}
use Rattle.settings.specs.declared.Settings.{Settings}
use Rattle.refusals.specs.declared.Refusal.{Refusal}
use Rattle.refusals.specs.declared.Refusal.TheVariants.{NoRoom}
use Rattle.settings.specs.Checks.{check_pack}
use Rattle.settings.specs.CheckLaws.{Fine}
use Rattle.cube.specs.File.{file, length_answer, packed}
use Rattle.cube.specs.Answers.{packed_number, packed_value}
use Rattle.refusals.specs.Refusals.{clears}
use Rattle.cube.specs.Areas.{out_after, Packs, Lengths}
use Rattle.cube.specs.Writing.{Written}
use Rattle.cube.specs.CallLaws.{hit_tests}
use Rattle.cube.specs.PackLaws.{packed_fits, packed_too_long}

-- the answer and the output make the statement: number and value are the answer's
packs_as : (S : Settings) (tables samples scratch : List ℤ) (out : List ℕ) {r : Result ℕ Refusal} {out' : List ℕ} → r ≡ packed S tables samples (length scratch) (length out)
    → out' ≡ out_after S tables samples (packed S tables samples (length scratch) (length out)) out → Packs S tables samples scratch out r out'
packs_as S tables samples scratch out e o = record { answer = e; number_is = ap packed_number e; value_is = ap packed_value e; output = o }

pub lengths_as : (S : Settings) (tables samples scratch : List ℤ) {r : Result ℕ Refusal} → r ≡ length_answer S tables samples (length scratch) → Lengths S tables samples scratch r
lengths_as S tables samples scratch e = record { answer = e; number_is = ap packed_number e; value_is = ap packed_value e }

module _ (S : Settings) (tables samples scratch : List ℤ) (out : List ℕ) where
  pub packs_stored : (n : ℕ) (out' : List ℕ) → Fine S tables samples (length scratch) → Written S tables samples out n out' → length out' ≡ length out → n ≤ length out
      → Packs S tables samples scratch out (Ok n) out'
  unfolding out_after
  packs_stored n out' f w l h =
      let e = w.size in
      let k : packed S tables samples (length scratch) (length out) ≡ Ok n = packed_fits S tables samples (length scratch) (length out) f (omega arith) ∙ ap Ok (sym e) in
      packs_as S tables samples scratch out (sym k)
      (w.stored (omega arith) ∙ ap (λ (m : ℕ). file S tables samples ++ drop m out) e ∙ ap (λ (x : Result ℕ Refusal). out_after S tables samples x out) (sym k))

  pub packs_cleared : (n : ℕ) (out' : List ℕ) → Fine S tables samples (length scratch) → n ≡ length (file S tables samples) → length out < n
      → out' ≡ replicate (length out) 0 → Packs S tables samples scratch out (Err (NoRoom n)) out'
  unfolding out_after clears
  packs_cleared n out' f e h z =
      let k : packed S tables samples (length scratch) (length out) ≡ Err (NoRoom n) = packed_too_long S tables samples (length scratch) (length out) f (omega arith) ∙ ap (λ (m : ℕ). Err (NoRoom m)) (sym e) in
      packs_as S tables samples scratch out (sym k) (z ∙ ap (λ (x : Result ℕ Refusal). out_after S tables samples x out) (sym k))

pub length_refused : (S : Settings) (tables samples : List ℤ) (scratch : ℕ) (w : Refusal) → check_pack S tables samples scratch ≡ Err w
    → Err w ≡ length_answer S tables samples scratch
unfolding length_answer
length_refused S tables samples scratch w e = sym (rw e)

-- the writer's tests refuse with 1 to 5, which touch nothing
untouched : (S : Settings) (tables samples : List ℤ) (scratch : ℕ) (w : Refusal) → check_pack S tables samples scratch ≡ Err w → clears w ≡ false
unfolding check_pack clears
untouched S tables samples scratch w e = hit_tests (λ v. clears v ≡ false) _ w (refl, (refl, (refl, (refl, (refl, (refl, tt)))))) e

pub packs_refused : (S : Settings) (tables samples scratch : List ℤ) (out : List ℕ) (w : Refusal) → check_pack S tables samples (length scratch) ≡ Err w
    → Packs S tables samples scratch out (Err w) out
unfolding packed out_after
packs_refused S tables samples scratch out w e =
    let k : packed S tables samples (length scratch) (length out) ≡ Err w = rw (← length_refused S tables samples (length scratch) w e) in
    packs_as S tables samples scratch out (sym k)
    (sym (ap (λ (x : Result ℕ Refusal). out_after S tables samples x out) k ∙ ap (λ (b : Bool). cond b (replicate (length out) 0) out) (untouched S tables samples (length scratch) w e)))

-- Slots as the calls leave and take them: the words say number and value, slots that were written are read back, and what passes the slots' tests is the cube's.
use Rattle.std.specs.Prelude.{◌≡◌, refl, Bool, true, false, ◌||◌, List, ◌++◌, ℕ, ◌<◌, ◌≤◌, ℤ, pos, length, Ok, Err}
use Rattle.std.proofs.Common.{◌∙◌, le-ltb, lt-ltb, le-leb}
use Rattle.std.proofs.Math.Nat.{mul-add-div_right, mul-add-mod_self_right, mod-eq_of_lt, div-eq_of_lt}
use native.Mathlib.Omega.{arith}
use Rattle.std.specs.Int.Signed.{le_z}
use Rattle.refusals.specs.declared.Refusal.{Refusal}
use Rattle.refusals.specs.declared.Refusal.TheVariants.{IllegalSetting, SampleOutOfRange, WrongCount, HouseLimit, ShortArea, NoRoom, EndsInHeader, IllegalField, BodyEnds, BadCodeword, AfterEnd, BlockCoder, UnfitFile, RowOutOfTurn, SecondNotRising, NoTablesLent, BadCalibration, NoSerialLeft}
use Rattle.refusals.specs.Refusals.{number, value}
use Rattle.refusals.specs.Tests.{first_hit}
use Rattle.settings.specs.declared.Settings.{Settings}
use Rattle.settings.specs.Legal.{settings_legal}
use Rattle.settings.specs.LegalLaws.{legal_settings}
use Rattle.settings_slots.specs.Slots.{slot_count, image_holds, predictor_holds, coder_holds, holds, image_from, predictor_from, coder_from, settings_from, slots_of, flag_slot, up_to, natural, slots_checked}
use Rattle.cube_c.specs.Answer.{value_limit, word_of, number_in, value_in}

-- ---- words

module _ (n v : ℕ) (small : v < value_limit) where
  pub number_in_lem : number_in (word_of n v) ≡ n
  unfolding number_in word_of
  number_in_lem = mul-add-div_right (omega arith) n v ∙ let e = div-eq_of_lt small in omega arith

  pub value_in_lem : value_in (word_of n v) ≡ v
  unfolding value_in word_of
  value_in_lem = mul-add-mod_self_right n value_limit v ∙ mod-eq_of_lt small

-- the refusal with number 6 is that of no room
pub six : (w : Refusal) → number w ≡ 6 → w ≡ NoRoom (value w)
unfolding number value
six IllegalSetting e = absurd (omega arith)
six (SampleOutOfRange index) e = absurd (omega arith)
six WrongCount e = absurd (omega arith)
six HouseLimit e = absurd (omega arith)
six ShortArea e = absurd (omega arith)
six (NoRoom length) e = refl
six EndsInHeader e = absurd (omega arith)
six IllegalField e = absurd (omega arith)
six (BodyEnds rank) e = absurd (omega arith)
six (BadCodeword rank) e = absurd (omega arith)
six (AfterEnd count) e = absurd (omega arith)
six BlockCoder e = absurd (omega arith)
six UnfitFile e = absurd (omega arith)
six RowOutOfTurn e = absurd (omega arith)
six SecondNotRising e = absurd (omega arith)
six NoTablesLent e = absurd (omega arith)
six (BadCalibration band) e = absurd (omega arith)
six NoSerialLeft e = absurd (omega arith)

-- ---- the tests of the slots

module _ (slots : List ℤ) where
  pub slots_short : length slots < slot_count → slots_checked slots ≡ Err WrongCount
  unfolding slots_checked first_hit
  slots_short h = rw (lt-ltb (length slots) slot_count h)

  pub slots_unfit : slot_count ≤ length slots → holds slots ≡ false → slots_checked slots ≡ Err IllegalSetting
  unfolding slots_checked first_hit
  slots_unfit h e = rw (le-ltb (length slots) slot_count h, e)

  pub slots_fit : slot_count ≤ length slots → holds slots ≡ true → slots_checked slots ≡ (Ok tt)
  unfolding slots_checked first_hit
  slots_fit h e = rw (le-ltb (length slots) slot_count h, e)

-- ---- slots that were written

-- what stands behind the 24 slots is not looked at
pub from_front : (S : Settings) (rest : List ℤ) → settings_from (slots_of S ++ rest) ≡ settings_from (slots_of S)
unfolding settings_from image_from predictor_from coder_from slots_of
from_front S rest = refl

flag_holds : (b : Bool) → up_to (flag_slot b) 1 ≡ true
flag_holds true = refl
flag_holds false = refl

zero_least : (n : ℕ) → natural (pos n) ≡ true
zero_least n = le-leb 0 n (omega arith)

or_last : (a : Bool) → (a || true) ≡ true
or_last true = refl
or_last false = refl

-- the record can hold the slots of legal settings
pub slots_hold : (S : Settings) (rest : List ℤ) → settings_legal S ≡ true → holds (slots_of S ++ rest) ≡ true
unfolding holds image_holds predictor_holds coder_holds slots_of
slots_hold S rest legal =
    let user : le_z (pos S.image.user) (pos 255) ≡ true = le-leb S.image.user 255 (legal_settings S legal).image.user_most in
    simp (user, flag_holds S.image.signed, flag_holds S.image.sequential, flag_holds S.predictor.reduced, flag_holds S.predictor.column, flag_holds S.predictor.custom, flag_holds S.coder.tabled, zero_least, or_last)

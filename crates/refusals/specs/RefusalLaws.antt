-- The table of refusals, read off its definitions: its numbers in order, the values, and which of them clear.
use Rattle.std.specs.Prelude.{◌≡◌, refl, ◌||◌, List, [], ◌∷◌, map, ℕ, ◌≤◌, eqb}
use Rattle.std.proofs.Common.{arith}
use Rattle.refusals.specs.declared.Refusal.{Refusal}
use Rattle.refusals.specs.declared.Refusal.TheVariants.{IllegalSetting, SampleOutOfRange, WrongCount, HouseLimit, ShortArea, NoRoom, EndsInHeader, IllegalField, BodyEnds, BadCodeword, AfterEnd, BlockCoder, UnfitFile, RowOutOfTurn, SecondNotRising, NoTablesLent, BadCalibration, NoSerialLeft}
use Rattle.refusals.specs.Refusals.{number, value, clears}

-- every reason once, in the order of the documents, each with the value v where it has one
abbrev pub reasons : ℕ → List Refusal
reasons v =
    IllegalSetting ∷ SampleOutOfRange v ∷ WrongCount ∷ HouseLimit ∷ ShortArea ∷ NoRoom v ∷ EndsInHeader ∷ IllegalField ∷ BodyEnds v ∷ BadCodeword v ∷ AfterEnd v ∷ BlockCoder ∷ UnfitFile ∷ RowOutOfTurn ∷ SecondNotRising ∷ NoTablesLent ∷ BadCalibration v ∷ NoSerialLeft ∷ []

-- their numbers are 1 to 18
pub numbers_in_order : (v : ℕ) → map number (reasons v) ≡ 1 ∷ 2 ∷ 3 ∷ 4 ∷ 5 ∷ 6 ∷ 7 ∷ 8 ∷ 9 ∷ 10 ∷ 11 ∷ 12 ∷ 13 ∷ 14 ∷ 15 ∷ 16 ∷ 17 ∷ 18 ∷ []
unfolding number
numbers_in_order v = refl

-- a value comes with 2, 6, 9, 10, 11 and 17, and 0 with every other
pub values_in_order : (v : ℕ) → map value (reasons v) ≡ 0 ∷ v ∷ 0 ∷ 0 ∷ 0 ∷ v ∷ 0 ∷ 0 ∷ v ∷ v ∷ v ∷ 0 ∷ 0 ∷ 0 ∷ 0 ∷ 0 ∷ v ∷ 0 ∷ []
unfolding value
values_in_order v = refl

-- there is no other number, and those that clear are 6, 9, 10 and 11
pub refusals_closed : (w : Refusal) → (1 ≤ number w) × (number w ≤ 18) × (clears w ≡ (eqb (number w) 6 || eqb (number w) 9 || eqb (number w) 10 || eqb (number w) 11))
unfolding number clears
refusals_closed IllegalSetting = (omega arith, omega arith, refl)
refusals_closed (SampleOutOfRange index) = (omega arith, omega arith, refl)
refusals_closed WrongCount = (omega arith, omega arith, refl)
refusals_closed HouseLimit = (omega arith, omega arith, refl)
refusals_closed ShortArea = (omega arith, omega arith, refl)
refusals_closed (NoRoom length) = (omega arith, omega arith, refl)
refusals_closed EndsInHeader = (omega arith, omega arith, refl)
refusals_closed IllegalField = (omega arith, omega arith, refl)
refusals_closed (BodyEnds rank) = (omega arith, omega arith, refl)
refusals_closed (BadCodeword rank) = (omega arith, omega arith, refl)
refusals_closed (AfterEnd count) = (omega arith, omega arith, refl)
refusals_closed BlockCoder = (omega arith, omega arith, refl)
refusals_closed UnfitFile = (omega arith, omega arith, refl)
refusals_closed RowOutOfTurn = (omega arith, omega arith, refl)
refusals_closed SecondNotRising = (omega arith, omega arith, refl)
refusals_closed NoTablesLent = (omega arith, omega arith, refl)
refusals_closed (BadCalibration band) = (omega arith, omega arith, refl)
refusals_closed NoSerialLeft = (omega arith, omega arith, refl)

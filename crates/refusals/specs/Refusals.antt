-- The table "When the recorder says no" of document 01, and behind it the refusals of document 02: the number of each, the value returned with it, and whether it clears.
use Rattle.std.specs.Prelude.{Bool, true, false, ℕ}
use Rattle.refusals.specs.declared.Refusal.{Refusal}
use Rattle.refusals.specs.declared.Refusal.TheVariants.{IllegalSetting, SampleOutOfRange, WrongCount, HouseLimit, ShortArea, NoRoom, EndsInHeader, IllegalField, BodyEnds, BadCodeword, AfterEnd, BlockCoder, UnfitFile, RowOutOfTurn, SecondNotRising, NoTablesLent, BadCalibration, NoSerialLeft}

-- the number (document 01, "When the recorder says no"; 13 to 18 in document 02: W-201, W-205, W-209, W-204, W-210, W-201)
unfoldable pub number : Refusal → ℕ
number IllegalSetting = 1
number (SampleOutOfRange index) = 2
number WrongCount = 3
number HouseLimit = 4
number ShortArea = 5
number (NoRoom length) = 6
number EndsInHeader = 7
number IllegalField = 8
number (BodyEnds rank) = 9
number (BadCodeword rank) = 10
number (AfterEnd count) = 11
number BlockCoder = 12
number UnfitFile = 13
number RowOutOfTurn = 14
number SecondNotRising = 15
number NoTablesLent = 16
number (BadCalibration band) = 17
number NoSerialLeft = 18

-- the value: an index, a length, a rank, a count or a band, else 0 (document 01, "returned with it")
unfoldable pub value : Refusal → ℕ
value IllegalSetting = 0
value (SampleOutOfRange index) = index
value WrongCount = 0
value HouseLimit = 0
value ShortArea = 0
value (NoRoom length) = length
value EndsInHeader = 0
value IllegalField = 0
value (BodyEnds rank) = rank
value (BadCodeword rank) = rank
value (AfterEnd count) = count
value BlockCoder = 0
value UnfitFile = 0
value RowOutOfTurn = 0
value SecondNotRising = 0
value NoTablesLent = 0
value (BadCalibration band) = band
value NoSerialLeft = 0

-- those that leave the lent areas zero, whole: 6 the output, 9 to 11 the image and table areas (document 01, "buffers")
unfoldable pub clears : Refusal → Bool
clears IllegalSetting = false
clears (SampleOutOfRange index) = false
clears WrongCount = false
clears HouseLimit = false
clears ShortArea = false
clears (NoRoom length) = true
clears EndsInHeader = false
clears IllegalField = false
clears (BodyEnds rank) = true
clears (BadCodeword rank) = true
clears (AfterEnd count) = true
clears BlockCoder = false
clears UnfitFile = false
clears RowOutOfTurn = false
clears SecondNotRising = false
clears NoTablesLent = false
clears (BadCalibration band) = false
clears NoSerialLeft = false

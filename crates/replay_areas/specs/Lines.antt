-- What a line tells of a call.
use Rattle.std.specs.Prelude.{false, ℕ, ◌/◌, ◌%◌, ◌^◌, List, ◌∷◌, ◌++◌}
use Rattle.std.specs.Fmt.{decimal, digits}

-- the number in the word's highest byte, the value below it and the hash in hexadecimal, a space before each but the first
abbrev pub told_text : ℕ → ℕ → List ℕ
told_text answer hash = decimal (answer / 2 ^ 56) ++ (32 ∷ decimal (answer % 2 ^ 56) ++ (32 ∷ digits 16 false hash))

-- Answers in one word: number · 2^56 + value. Number 0 is success; any other is document 01's refusal.
use Rattle.std.specs.Prelude.{ℕ, ◌+◌, ◌*◌, ◌/◌, ◌%◌, ◌^◌, Result}
use Rattle.refusals.specs.declared.Refusal.{Refusal}
use Rattle.refusals.specs.Refusals.{number, value}
use Rattle.settings.specs.declared.Settings.{Settings}
use Rattle.cube.specs.Answers.{packed_number, packed_value, opened_number, opened_value, looked_value}

-- what the value is kept below
abbrev pub value_limit : ℕ
value_limit = 2 ^ 56

-- a number and a value in one word
unfoldable pub word_of : ℕ → ℕ → ℕ
word_of n v = n * value_limit + v

-- and back: the number that a word says, and the value
unfoldable pub number_in : ℕ → ℕ
number_in r = r / value_limit

unfoldable pub value_in : ℕ → ℕ
value_in r = r % value_limit

-- the word of a refusal
abbrev pub refusal_word : Refusal → ℕ
refusal_word w = word_of (number w) (value w)

-- the word that pack and length answer
unfoldable pub packed_word : Result ℕ Refusal → ℕ
packed_word r = word_of (packed_number r) (packed_value r)

-- the word that open answers
unfoldable pub opened_word : Result Settings Refusal → ℕ
opened_word r = word_of (opened_number r) (opened_value r)

-- the word that look answers
unfoldable pub looked_word : Result Settings Refusal → ℕ
looked_word r = word_of (opened_number r) (looked_value r)

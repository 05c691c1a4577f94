-- An answer whose success was mapped to a number, told by its number and its value.
use Rattle.std.specs.Prelude.{◌≡◌, refl, ℕ, Result, Ok, Err, MatchResult, IsOkAnd}
use Rattle.refusals.specs.declared.Refusal.{Refusal}
use Rattle.settings.specs.declared.Settings.{Settings}
use Rattle.settings.specs.Legal.{sample_count}
use Rattle.cube.specs.Answers.{packed_number, packed_value, opened_number, opened_value, looked_value}

pub record Told (r : Result Settings Refusal) (m : Result ℕ Refusal) (v : ℕ) : Type 0 where
  pub number : packed_number m ≡ opened_number r
  pub value : packed_value m ≡ v

pub opened_told : (r : Result Settings Refusal) (m : Result ℕ Refusal) (Q : Settings → ℕ → Type 0) → MatchResult r (λ s. IsOkAnd m (Q s)) (λ w. m ≡ Err w)
    → ((s : Settings) (n : ℕ) → Q s n → n ≡ sample_count s.image) → Told r m (opened_value r)
unfolding packed_number packed_value opened_number opened_value
opened_told (Ok s) (Ok n) Q h q = record { number = refl; value = q s n h }
opened_told (Ok s) (Err w) Q h q = absurd h
opened_told (Err w) m Q h q = rw h (record { number = refl; value = refl })

pub looked_told : (r : Result Settings Refusal) (m : Result ℕ Refusal) (Q : Settings → ℕ → Type 0) → MatchResult r (λ s. IsOkAnd m (Q s)) (λ w. m ≡ Err w)
    → ((s : Settings) (n : ℕ) → Q s n → n ≡ 0) → Told r m (looked_value r)
unfolding packed_number packed_value opened_number looked_value
looked_told (Ok s) (Ok n) Q h q = record { number = refl; value = q s n h }
looked_told (Ok s) (Err w) Q h q = absurd h
looked_told (Err w) m Q h q = rw h (record { number = refl; value = refl })

-- The number and the value of each call's answer (document 01, "When the recorder says no"): 0 and what success returns, or the refusal's own.
use Rattle.std.specs.Prelude.{ℕ, Result, Ok, Err}
use Rattle.settings.specs.Legal.{sample_count}
use Rattle.settings.specs.declared.Settings.{Settings}
use Rattle.refusals.specs.declared.Refusal.{Refusal}
use Rattle.refusals.specs.Refusals.{number, value}

-- the number that pack and length answer
unfoldable pub packed_number : Result ℕ Refusal → ℕ
packed_number (Ok n) = 0
packed_number (Err w) = number w

-- and the value: the file's length
unfoldable pub packed_value : Result ℕ Refusal → ℕ
packed_value (Ok n) = n
packed_value (Err w) = value w

-- the number that open and look answer
unfoldable pub opened_number : Result Settings Refusal → ℕ
opened_number (Ok S) = 0
opened_number (Err w) = number w

-- and the value of open, beside the settings: Nx·Ny·Nz
unfoldable pub opened_value : Result Settings Refusal → ℕ
opened_value (Ok S) = sample_count S.image
opened_value (Err w) = value w

-- and the value of look: nothing beside the settings
unfoldable pub looked_value : Result Settings Refusal → ℕ
looked_value (Ok S) = 0
looked_value (Err w) = value w

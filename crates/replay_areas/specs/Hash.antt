-- The hash: the value at BASE of a polynomial, modulo MODULUS, by Horner's rule.
use Rattle.std.specs.Prelude.{ℕ, ◌+◌, ◌*◌, ◌%◌}
use Rattle.replay_areas.specs.declared.shared.TheConstants.{BASE, MODULUS}

-- a hash with one word more
abbrev pub with_word : ℕ → ℕ → ℕ
with_word hash x = ((hash % MODULUS) * BASE + x + 1) % MODULUS

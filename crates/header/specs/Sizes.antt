-- How many bits the two tables take with their fill, from the settings alone.
use Rattle.std.specs.Prelude.{cond, ℕ, ◌+◌, ◌*◌}
use Rattle.bitstream.specs.Stream.{filling}
use Rattle.settings.specs.declared.Image.{Image}
use Rattle.settings.specs.declared.Predictor.{Predictor}
use Rattle.settings.specs.declared.Coder.{Coder}
use Rattle.settings.specs.declared.Settings.{Settings}
use Rattle.settings.specs.Limits.{most_weight_bits, most_parameter_bits}
use Rattle.header.specs.Parts.{fixed_bits}
use Rattle.header.specs.Tables.{components_before}

-- n bits and the fill behind them
abbrev pub padded : ℕ → ℕ
padded n = n + filling 8 n

-- the bits of the weight table without its fill
abbrev pub weight_bits : Image → Predictor → ℕ
weight_bits I P = P.precision * components_before P I.nz

-- the bits of the weight table, where there is one
unfoldable pub weights_size : Image → Predictor → ℕ
weights_size I P = cond P.custom (padded (weight_bits I P)) 0

-- the bits of the table of k', where there is one
unfoldable pub accumulators_size : Image → Coder → ℕ
accumulators_size I C = cond C.tabled (padded (4 * I.nz)) 0

-- the header's three fixed parts and its two tables
unfoldable pub header_size : Settings → ℕ
header_size S = fixed_bits + weights_size S.image S.predictor + accumulators_size S.image S.coder

-- the most bits of a header within the house limits
abbrev pub most_header_bits : ℕ
most_header_bits = fixed_bits + (most_weight_bits + 7) + (most_parameter_bits + 7)

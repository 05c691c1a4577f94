-- The house limits (document 01) and the sizes that follow from them. A higher limit is a change of the first two numbers
-- and of their twins in src/legal.rt; everything else is written with these names.
use Rattle.std.specs.Prelude.{ℕ, ◌+◌, ◌*◌, ◌^◌}

-- the most samples of an image
abbrev pub most_samples : ℕ
most_samples = 268435456

-- the most bands of an image
abbrev pub most_bands : ℕ
most_bands = 4096

-- ---- tables of so many bands

-- the most components of all bands, at most 18 a band (4.5)
abbrev pub most_components : ℕ
most_components = 18 * most_bands

-- the most bits of a weight table, at most 22 a component (5.3.3)
abbrev pub most_weight_bits : ℕ
most_weight_bits = 22 * most_components

-- the most bits of a table of k', 4 a band (5.3.4.2)
abbrev pub most_parameter_bits : ℕ
most_parameter_bits = 4 * most_bands

-- ---- files of so many bands and samples

-- the most bits of a body, at most 48 a sample (5.4.3.2)
abbrev pub most_body_bits : ℕ
most_body_bits = 48 * most_samples

-- the most bytes of a file (cube/specs/SizeLaws.antt)
abbrev pub most_file_bytes : ℕ
most_file_bytes = 32 + 50 * most_bands + 6 * most_samples

-- ---- ceilings: no limits, but what words of 64 bits hold with room to spare. They hold 2^28 samples of 48 bits behind the tables
-- of 4,096 bands, and did so before the limits were these: the proofs of the code rest on the ceilings alone.

-- the bits of a table or of a header
abbrev pub table_ceiling : ℕ
table_ceiling = 2 ^ 28

-- the bits of a file
abbrev pub file_ceiling : ℕ
file_ceiling = 2 ^ 40

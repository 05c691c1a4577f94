-- The two tables (5.3.3.2, 5.3.4.2.2) as bits, and the table area that they fill.
use Rattle.std.specs.Prelude.{Bool, cond, ◌&&◌, ◌||◌, List, ℕ, suc, ◌+◌, ◌-◌, ◌*◌, ◌^◌, ℤ, pos, negsuc, nat_abs, ◌-ℤ◌, take, drop, ltb, eqb}
use Rattle.bitstream.specs.Stream.{bits, number}
use Rattle.settings.specs.declared.Predictor.{Predictor}
use Rattle.settings.specs.declared.Settings.{Settings}
use Rattle.settings.specs.Lists.{join, one, sum_below}
use Rattle.settings.specs.Tables.{table_stride, parameter_slot, entry, component_count}

-- a signed number of q bits in two's complement
unfoldable pub twos : ℕ → ℤ → ℕ
twos q (pos n) = n
twos q (negsuc n) = 2 ^ q - suc n

-- and back
unfoldable pub signed_of : ℕ → ℕ → ℤ
signed_of q v = cond (ltb v (2 ^ (q - 1))) (pos v) (pos v -ℤ pos (2 ^ q))

-- bands rising, components in order, q bits each
unfoldable pub weight_table : Predictor → ℕ → List ℤ → List Bool
weight_table P nz tables =
    join (λ z. join (λ i. bits P.precision (twos P.precision (entry tables z i))) 0 (component_count P z)) 0 nz

-- four bits a band
unfoldable pub accumulator_table : ℕ → List ℤ → List Bool
accumulator_table nz tables = join (λ z. bits 4 (nat_abs (entry tables z parameter_slot))) 0 nz

-- the components of the bands before band z, and so their number up to it
unfoldable pub components_before : Predictor → ℕ → ℕ
components_before P z = sum_below z (component_count P)

-- entry n of a table of w-bit numbers
unfoldable pub number_at : ℕ → List Bool → ℕ → ℕ
number_at w l n = number (take w (drop (w * n) l))

-- slot i of band z stands in a table of the header
unfoldable pub used : Settings → ℕ → ℕ → Bool
used S z i =
    (S.predictor.custom && ltb i (component_count S.predictor z)) || (S.coder.tabled && eqb i parameter_slot)

-- a table area of Nz bands with f in the slots used and zero in the others
unfoldable pub slots : Settings → (ℕ → ℕ → ℤ) → List ℤ
slots S f = join (λ z. join (λ i. one (cond (used S z i) (f z i) (pos 0))) 0 table_stride) 0 S.image.nz

-- the area with what the settings do not use as zero
unfoldable pub used_tables : Settings → List ℤ → List ℤ
used_tables S tables = slots S (entry tables)

-- the area that the bits of the two tables fill
unfoldable pub tables_of : Settings → List Bool → List Bool → List ℤ
tables_of S weights accumulators =
    slots S (λ z i.
    cond (eqb i parameter_slot) (pos (number_at 4 accumulators z))
    (signed_of S.predictor.precision (number_at S.predictor.precision weights (components_before S.predictor z + i))))

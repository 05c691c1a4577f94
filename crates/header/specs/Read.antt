-- The header read off bits, with refusals 7, 8, 12 and 4 in document 01's order.
-- A part is refused 8 unless its settings are legal and its bits are, to the last, those that these settings write:
-- so a reserved bit, an M beside band-sequential order, a Q beside default weights, a table without its flag are refused.
use Rattle.std.specs.Prelude.{Bool, true, cond, not, ◌&&◌, List, [], ◌∷◌, ℕ, ◌+◌, ◌-◌, ◌*◌, ℤ, length, take, drop, leb, ltb, eqb}
use Rattle.bitstream.specs.Stream.{filled, filling}
use Rattle.refusals.specs.declared.Refusal.TheVariants.{EndsInHeader, IllegalField, HouseLimit, BlockCoder}
use Rattle.refusals.specs.Tests.{◌⇒◌, first_hit}
use Rattle.refusals.specs.Reading.{Read, got, and_then, unless}
use Rattle.settings.specs.declared.Image.{Image}
use Rattle.settings.specs.declared.Predictor.{Predictor}
use Rattle.settings.specs.declared.Coder.{Coder}
use Rattle.settings.specs.declared.Settings.{Settings}
use Rattle.settings.specs.Legal.{image_legal, predictor_legal, coder_legal, limited}
use Rattle.settings.specs.Tables.{every}
use Rattle.header.specs.Fields.{fields, split, same}
use Rattle.header.specs.Places.{◌‼◌, coder_type}
use Rattle.header.specs.Parts.{image_fields, image_widths, image_of, predictor_fields, predictor_widths, predictor_of, coder_fields, coder_widths, coder_of, image_bits, predictor_bits, coder_bits}
use Rattle.header.specs.Tables.{components_before, number_at, tables_of}

-- n bits are there, or the header ends inside
abbrev pub present : {A : Type 0} → ℕ → List Bool → Read A → Read A
present n l x = unless (first_hit (ltb (length l) n ⇒ EndsInHeader ∷ [])) x

-- table 5-1; its fields come before the coder's type, and that before the house limits
unfoldable pub read_image : List Bool → Read Image
read_image l =
    present image_bits l
    (unless (first_hit
    (not (image_legal (image_of v) && same (take image_bits l) (fields (image_fields (image_of v) (v ‼ coder_type)))) ⇒ IllegalField
    ∷ eqb (v ‼ coder_type) 1 ⇒ BlockCoder
    ∷ not (limited (image_of v)) ⇒ HouseLimit
    ∷ []))
    (got (image_of v) (drop image_bits l)))
  where
    v : List ℕ
    v = split image_widths l

-- table 5-2
unfoldable pub read_predictor : Image → List Bool → Read Predictor
read_predictor I l =
    present predictor_bits l
    (unless (first_hit
    (not (predictor_legal I (predictor_of v) && same (take predictor_bits l) (fields (predictor_fields (predictor_of v)))) ⇒ IllegalField ∷ []))
    (got (predictor_of v) (drop predictor_bits l)))
  where
    v : List ℕ
    v = split predictor_widths l

-- table 5-3
unfoldable pub read_coder : Image → List Bool → Read Coder
read_coder I l =
    present coder_bits l
    (unless (first_hit
    (not (coder_legal I (coder_of v) && same (take coder_bits l) (fields (coder_fields (coder_of v)))) ⇒ IllegalField ∷ []))
    (got (coder_of v) (drop coder_bits l)))
  where
    v : List ℕ
    v = split coder_widths l

-- n bits of a table that pass the test, and the fill behind them up to a byte
unfoldable pub read_table : ℕ → (List Bool → Bool) → List Bool → Read (List Bool)
read_table n test l =
    present (n + filling 8 n) l
    (unless (first_hit (not (test (take n l) && same (take (n + filling 8 n) l) (filled 8 (take n l))) ⇒ IllegalField ∷ []))
    (got (take n l) (drop (n + filling 8 n) l)))

-- the weight table, where there is one
unfoldable pub read_weights : Image → Predictor → List Bool → Read (List Bool)
read_weights I P l =
    cond P.custom (read_table (P.precision * components_before P I.nz) (λ table. true) l) (got [] l)

-- the table of k', where there is one; each is at most D − 2
unfoldable pub read_accumulators : Image → Coder → List Bool → Read (List Bool)
read_accumulators I C l =
    cond C.tabled (read_table (4 * I.nz) (λ table. every I.nz (λ z. leb (number_at 4 table z) (I.depth - 2))) l) (got [] l)

-- the settings, and the table area with unused slots as zero
pub record Header : Type 0 where
  pub settings : Settings
  pub tables : List ℤ

-- one part behind the other (5.3.1); the first refusal stands
unfoldable pub read_header : List Bool → Read Header
read_header l =
    and_then (read_image l) (λ I l₁.
    and_then (read_predictor I l₁) (λ P l₂.
    and_then (read_weights I P l₂) (λ weights l₃.
    and_then (read_coder I l₃) (λ C l₄.
    and_then (read_accumulators I C l₄) (λ accumulators l₅.
    let S : Settings = record { image = I; predictor = P; coder = C } in
    got (record { settings = S; tables = tables_of S weights accumulators }) l₅)))))

-- The tables are as long as the settings say, and short: at most 18 components a band, of at most 22 bits.
use Rattle.std.specs.Prelude.{◌≡◌, refl, Bool, true, false, cond, List, [], ℕ, zero, suc, ◌+◌, ◌*◌, ◌/◌, ◌≤◌, ℤ, length}
use Rattle.std.proofs.Common.{ap, ◌∙◌, mul-le-mul, add-one, arith, length-append}
use Rattle.std.proofs.lemmas.List.{length-replicate}
use Rattle.bitstream.specs.Stream.{filled}
use Rattle.bitstream.proofs.Laws.{filling_lt}
use Rattle.settings.specs.declared.Image.{Image}
use Rattle.settings.specs.declared.Predictor.{Predictor}
use Rattle.settings.specs.declared.Coder.{Coder}
use Rattle.settings.specs.declared.Settings.{Settings}
use Rattle.settings.specs.Lists.{sum_below}
use Rattle.settings.specs.Legal.{predictor_legal}
use Rattle.settings.specs.Limits.{most_bands, most_components, most_weight_bits, most_parameter_bits}
use Rattle.settings.specs.LegalLaws.{LegalSettings, legal_predictor, predictor_legal_lem}
use Rattle.settings.specs.Tables.{component_count}
use Rattle.settings.specs.TableLaws.{components_fit}
use Rattle.header.specs.Tables.{components_before}
use Rattle.header.specs.TableLaws.{length_weights, length_accumulators}
use Rattle.header.specs.PartLaws.{length_image, length_predictor, length_coder}
use Rattle.header.specs.Write.{weight_part, accumulator_part, header}
use Rattle.header.specs.HeaderLaws.{header_whole}
use Rattle.header.specs.Parts.{fixed_bits}
use Rattle.header.specs.Sizes.{padded, weight_bits, weights_size, accumulators_size, header_size, most_header_bits}

-- a part that a flag brings
pub cond_true : {A : Type 0} (b : Bool) (x y : A) → b ≡ true → cond b x y ≡ x
cond_true b x y e = rw e

-- ---- components

pub no_components : (P : Predictor) → components_before P 0 ≡ 0
unfolding components_before sum_below
no_components P = refl

pub more_components : (P : Predictor) (z : ℕ) → components_before P (z + 1) ≡ components_before P z + component_count P z
unfolding components_before sum_below
more_components P z = rw (add-one z)

pub components_most : (P : Predictor) (z : ℕ) → P.bands ≤ 15 → components_before P z ≤ 18 * z
unfolding components_before sum_below
components_most P zero h = omega arith
components_most P (suc z) h = omega (arith, components_most P z h, components_fit P z h)

-- ---- sizes

pub bits_most : (q n : ℕ) → q ≤ 22 → n ≤ most_components → q * n ≤ most_weight_bits
bits_most q n h k = mul-le-mul h k

pub length_filled : (t : List Bool) → length (filled 8 t) ≡ padded (length t)
unfolding filled
length_filled t = rw (length-append, length-replicate)

pub precision_most : (I : Image) (P : Predictor) → predictor_legal I P ≡ true → P.custom ≡ true → P.precision ≤ 22
precision_most I P e c = let l = legal_predictor I P e in omega (arith, (l.precise c).1, l.resolution_most)

if_most : (b : Bool) (n k : ℕ) → (b ≡ true → n ≤ k) → cond b (padded n) 0 ≤ k + 7
if_most true n k h = omega (arith, h refl, filling_lt 8 n (omega arith))
if_most false n k h = omega arith

-- of as many bands as the image has
pub weights_at_most : (I : Image) (P : Predictor) → predictor_legal I P ≡ true → weights_size I P ≤ 22 * (18 * I.nz) + 7
unfolding weights_size
weights_at_most I P e =
    if_most P.custom (weight_bits I P) (22 * (18 * I.nz))
    (λ c. mul-le-mul (precision_most I P e c) (components_most P I.nz (legal_predictor I P e).bands_most))

pub accumulators_at_most : (I : Image) (C : Coder) → accumulators_size I C ≤ 4 * I.nz + 7
unfolding accumulators_size
accumulators_at_most I C = if_most C.tabled (4 * I.nz) (4 * I.nz) (λ c. omega arith)

-- of as many bands as an image may have
pub weights_size_most : (I : Image) (P : Predictor) → predictor_legal I P ≡ true → I.nz ≤ most_bands → weights_size I P ≤ most_weight_bits + 7
weights_size_most I P e h = omega (arith, weights_at_most I P e)

pub accumulators_size_most : (I : Image) (C : Coder) → I.nz ≤ most_bands → accumulators_size I C ≤ most_parameter_bits + 7
accumulators_size_most I C h = omega (arith, accumulators_at_most I C)

-- ---- the header's length

if_filled : (b : Bool) (t : List Bool) (n : ℕ) → (b ≡ true → length t ≡ n) → length (cond b (filled 8 t) []) ≡ cond b (padded n) 0
if_filled true t n h = length_filled t ∙ ap padded (h refl)
if_filled false t n h = refl

pub length_weights_part : (I : Image) (P : Predictor) (t : List Bool) → (P.custom ≡ true → length t ≡ weight_bits I P) → length (cond P.custom (filled 8 t) []) ≡ weights_size I P
unfolding weights_size
length_weights_part I P t h = if_filled P.custom t (weight_bits I P) h

pub length_accumulators_part : (I : Image) (C : Coder) (t : List Bool) → (C.tabled ≡ true → length t ≡ 4 * I.nz) → length (cond C.tabled (filled 8 t) []) ≡ accumulators_size I C
unfolding accumulators_size
length_accumulators_part I C t h = if_filled C.tabled t (4 * I.nz) h

pub length_weight_part : (S : Settings) (tables : List ℤ) → length (weight_part S tables) ≡ weights_size S.image S.predictor
unfolding weight_part
length_weight_part S tables = length_weights_part S.image S.predictor _ (λ c. length_weights S.predictor S.image.nz tables)

length_accumulator_part : (S : Settings) (tables : List ℤ) → length (accumulator_part S tables) ≡ accumulators_size S.image S.coder
unfolding accumulator_part
length_accumulator_part S tables = length_accumulators_part S.image S.coder _ (λ c. length_accumulators S.image.nz tables)

pub length_header : (S : Settings) (tables : List ℤ) → length (header S tables) ≡ header_size S
unfolding header header_size
length_header S tables =
    simp (length-append, length_image, length_predictor, length_coder) (omega (arith, length_weight_part S tables, length_accumulator_part S tables))

pub bytes_of_header : (S : Settings) (w a : ℕ) → w ≡ weights_size S.image S.predictor → a ≡ accumulators_size S.image S.coder → (tables : List ℤ) → 8 * ((fixed_bits + w + a) / 8) ≡ length (header S tables)
unfolding header_size
bytes_of_header S w a p q tables = omega (arith, length_header S tables, header_whole S tables)

-- within the limits, and for any number of bands
pub header_at_most : (S : Settings) (tables : List ℤ) → LegalSettings S → length (header S tables) ≤ fixed_bits + (22 * (18 * S.image.nz) + 7) + (4 * S.image.nz + 7)
unfolding header_size
header_at_most S tables l =
    let w = weights_at_most S.image S.predictor (predictor_legal_lem S.image S.predictor l.predictor) in
    omega (arith, length_header S tables, accumulators_at_most S.image S.coder)

pub header_bits_most : (S : Settings) (tables : List ℤ) → LegalSettings S → S.image.nz ≤ most_bands → length (header S tables) ≤ most_header_bits
header_bits_most S tables l h = omega (arith, header_at_most S tables l)

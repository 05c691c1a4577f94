-- What is read of a header stands at a position that the sizes give: the parts behind each other, and the entries of a table in a row.
use mathlib.Core.Path.{◌≡◌, refl, sym, ap, ◌∙◌}
use mathlib.Core.Bool.{Bool, true, cond}
use mathlib.Core.List.{List, [], ◌++◌}
use Prim.Native.Nat.{ℕ, ◌+◌, ◌-◌, ◌*◌, ◌≤◌}
use native.Mathlib.Omega.{arith}
use lib.ListN.{length, take, drop, length-append, length-drop}
use lib.Seq.{take-take, drop-drop, drop_at, length-take-le}
use Rattle.bitstream.specs.Stream.{number, filled}
use Rattle.bitstream.proofs.Laws.{take_drop}
use Rattle.refusals.specs.Reading.{got}
use Rattle.settings.specs.declared.Image.{Image}
use Rattle.settings.specs.declared.Predictor.{Predictor}
use Rattle.settings.specs.declared.Settings.{Settings}
use Rattle.settings.specs.Legal.{image_legal, predictor_legal}
use Rattle.settings.specs.Limits.{most_bands, most_weight_bits}
use Rattle.settings.specs.LegalLaws.{legal_image, limited_facts}
use Rattle.header.specs.Fields.{fields}
use Rattle.header.specs.Parts.{image_fields, predictor_fields, coder_fields, image_bits, predictor_bits, coder_bits, predictor_end, fixed_bits}
use Rattle.header.specs.PartLaws.{length_image, length_predictor, length_coder}
use Rattle.header.specs.Tables.{number_at, tables_of}
use Rattle.header.specs.Read.{read_image, read_predictor, read_weights, read_coder, read_accumulators, read_header}
use Rattle.header.specs.ReadLaws.{read_image_lem, read_predictor_lem, read_weights_lem, read_coder_lem}
use Rattle.header.specs.Sizes.{weights_size}
use Rattle.header_values.specs.Progress.{ImageDone, PredictorDone, WeightsDone, CoderDone}
use Rattle.header.specs.SizeLaws.{weights_size_most, length_weights_part}

-- ---- the position behind n bits f

pub record Behind (F r : List Bool) (at n : ℕ) : Type 0 where
  pub same : r ≡ drop (at + n) F
  pub fits : at + n ≤ length F

pub behind : (F f r : List Bool) (at n : ℕ) → at ≤ length F → drop at F ≡ f ++ r → length f ≡ n → Behind F r at n
behind F f r at n h e k =
    let s : drop n (drop at F) ≡ r = ap (drop n) e ∙ drop_at f r n k in
    let m : length F - at ≡ length f + length r = sym (length-drop at F) ∙ ap length e ∙ length-append f r in
    record { same = sym s ∙ drop-drop n at F; fits = omega arith }

-- ---- how far the header is read, and what is known there

pub record ImageFacts (F : List Bool) (I : Image) : Type 0 where
  pub legal : image_legal I ≡ true
  pub depth : 2 ≤ I.depth
  pub bands : I.nz ≤ most_bands
  pub fits : image_bits ≤ length F

image_behind : (F r : List Bool) (I : Image) → read_image F ≡ got I r → Behind F r 0 image_bits
image_behind F r I e = behind F (fields (image_fields I 0)) r 0 image_bits (omega arith) (read_image_lem F r I e).same (length_image I 0)

pub image_facts : (F : List Bool) (I : Image) → ImageDone F I → ImageFacts F I
image_facts F I d =
    let k = read_image_lem F _ I d.image in
    record { legal = k.legal; depth = (legal_image I k.legal).depth_least; bands = (limited_facts I k.limits).few_bands; fits = (image_behind F _ I d.image).fits }

pub image_got : (F r : List Bool) (I : Image) → read_image F ≡ got I r → ImageDone F I
image_got F r I e = record { image = e ∙ ap (got I) (image_behind F r I e).same }

pub record PredictorFacts (F : List Bool) (I : Image) (P : Predictor) : Type 0 where
  pub image : ImageFacts F I
  pub legal : predictor_legal I P ≡ true
  pub fits : predictor_end ≤ length F

module _ (F : List Bool) (I : Image) (P : Predictor) where
  predictor_behind : (r : List Bool) → ImageDone F I → read_predictor I (drop image_bits F) ≡ got P r → Behind F r image_bits predictor_bits
  predictor_behind r d e = behind F (fields (predictor_fields P)) r image_bits predictor_bits (image_facts F I d).fits (read_predictor_lem I (drop image_bits F) r P e).same (length_predictor P)

  pub predictor_facts : PredictorDone F I P → PredictorFacts F I P
  predictor_facts d = record {
    image = image_facts F I d.before;
    legal = (read_predictor_lem I (drop image_bits F) _ P d.predictor).legal;
    fits = (predictor_behind _ d.before d.predictor).fits;
  }

  pub predictor_got : (r : List Bool) → ImageDone F I → read_predictor I (drop image_bits F) ≡ got P r → PredictorDone F I P
  predictor_got r d e = record { before = d; predictor = e ∙ ap (got P) (predictor_behind r d e).same }

  weights_behind_lem : (t r : List Bool) → PredictorDone F I P → read_weights I P (drop predictor_end F) ≡ got t r → Behind F r predictor_end (weights_size I P)
  weights_behind_lem t r d e =
      let w = read_weights_lem I P (drop predictor_end F) r t e in
      behind F (cond P.custom (filled 8 t) []) r predictor_end (weights_size I P) (predictor_facts d).fits w.same (length_weights_part I P t w.long)

  pub weights_got : (t r : List Bool) → PredictorDone F I P → read_weights I P (drop predictor_end F) ≡ got t r → WeightsDone F I P (predictor_end + weights_size I P)
  weights_got t r d e = record { before = d; place = refl; table = t; weights = e ∙ ap (got t) (weights_behind_lem t r d e).same }

pub record WeightsFacts (F : List Bool) (I : Image) (P : Predictor) (at : ℕ) : Type 0 where
  pub before : PredictorFacts F I P
  pub small : at ≤ predictor_end + most_weight_bits + 7
  pub fits : at ≤ length F

pub weights_facts : (F : List Bool) (I : Image) (P : Predictor) (at : ℕ) → WeightsDone F I P at → WeightsFacts F I P at
weights_facts F I P at d =
    let p = predictor_facts F I P d.before in
    let b = weights_behind_lem F I P d.table _ d.before d.weights in
    record { before = p; small = omega (arith, d.place, weights_size_most I P p.legal p.image.bands); fits = omega (arith, d.place, b.fits) }

module _ (F : List Bool) (S : Settings) where
  coder_behind : (at : ℕ) (r : List Bool) → WeightsDone F S.image S.predictor at → read_coder S.image (drop at F) ≡ got S.coder r → Behind F r at coder_bits
  coder_behind at r d e =
      behind F (fields (coder_fields S.coder)) r at coder_bits (weights_facts F S.image S.predictor at d).fits (read_coder_lem S.image (drop at F) r S.coder e).same (length_coder S.coder)

  pub coder_got : (at : ℕ) (r : List Bool) → WeightsDone F S.image S.predictor at → read_coder S.image (drop at F) ≡ got S.coder r → CoderDone F S (at + coder_bits)
  coder_got at r d e = record { from = at; before = d; place = refl; coder = e ∙ ap (got S.coder) (coder_behind at r d e).same }

pub record CoderFacts (F : List Bool) (S : Settings) (at : ℕ) : Type 0 where
  pub before : PredictorFacts F S.image S.predictor
  pub small : at ≤ fixed_bits + most_weight_bits + 7
  pub fits : at ≤ length F

pub coder_facts : (F : List Bool) (S : Settings) (at : ℕ) → CoderDone F S at → CoderFacts F S at
coder_facts F S at d =
    let w = weights_facts F S.image S.predictor d.from d.before in
    let b = coder_behind F S d.from _ d.before d.coder in
    record { before = w.before; small = omega (arith, d.place, w.small); fits = omega (arith, d.place, b.fits) }

-- ---- the end

pub header_got : (F : List Bool) (S : Settings) (at : ℕ) (t r : List Bool) (d : CoderDone F S at) → read_accumulators S.image S.coder (drop at F) ≡ got t r
    → read_header F ≡ got (record { settings = S; tables = tables_of S d.before.table t }) r
unfolding read_header
header_got F S at t r d e = rw (d.before.before.before.image, d.before.before.predictor, d.before.weights, d.coder, e)

-- ---- the entries of a table

-- entry m of a table of w-bit numbers that stands at a position of the file
pub number_in_file : (F : List Bool) (at w n m : ℕ) → w * m + w ≤ n → n ≤ length (drop at F) → number_at w (take n (drop at F)) m ≡ number (take w (drop (at + w * m) F))
unfolding number_at
number_in_file F at w n m h k =
    let l : List Bool = drop at F in
    let a : w * m ≤ length (take n l) = rw (length-take-le n l k) (omega arith) in
    ap number
    (take_drop (w * m) w (take n l) a ∙ ap (drop (w * m)) (take-take (w * m + w) n l h) ∙ sym (take_drop (w * m) w l (omega arith)) ∙ ap (take w) (drop-drop (w * m) at F))

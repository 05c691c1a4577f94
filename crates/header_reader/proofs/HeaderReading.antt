-- The header part by part: what an answer says of its part is what the definition reads next, at a position that the sizes give.
use Rattle.std.specs.Prelude.{Ok, Err}
use mathlib.Core.Path.{◌≡◌, refl, sym, ap, ◌∙◌}
use mathlib.Core.Bool.{Bool, cond}
use mathlib.Core.List.{List, []}
use Prim.Native.Nat.{ℕ, ◌+◌}
use lib.ListN.{drop}
use Rattle.bitstream.specs.Stream.{filled}
use Rattle.bitstream.proofs.Laws.{absurd_path}
use Rattle.refusals.specs.declared.Refusal.{Refusal}
use Rattle.refusals.specs.Reading.{Read, got, refused}
use Rattle.settings.specs.declared.Image.{Image}
use Rattle.settings.specs.declared.Predictor.{Predictor}
use Rattle.settings.specs.declared.Coder.{Coder}
use Rattle.settings.specs.declared.Settings.{Settings}
use Rattle.header.specs.Parts.{image_bits, coder_bits, predictor_end}
use Rattle.header.specs.Tables.{tables_of}
use Rattle.header.specs.Read.{read_image, read_predictor, read_weights, read_coder, read_accumulators, Header, read_header}
use Rattle.header.specs.ReadLaws.{read_accumulators_lem}
use Rattle.header.specs.Sizes.{weights_size, accumulators_size}
use Rattle.header_values.specs.Progress.{ImageDone, PredictorDone, WeightsDone, CoderDone}
use Rattle.header_values.proofs.Positions.{behind, image_got, predictor_got, weights_got, coder_got, coder_facts, header_got}
use Rattle.header_reader.specs.Answers.{image_read, predictor_read, coder_read, table_read, Begins}
use Rattle.header_reader.proofs.Answering.{was_got, was_refused}
use Rattle.header.specs.SizeLaws.{length_accumulators_part}

-- ---- what an answer says

pub image_refused : (x : Read Image) (w : Refusal) → Err w ≡ image_read x → x ≡ refused w
image_refused = was_refused Ok Err (λ a b e. cc) (λ r s e. cc) (λ a r e. cc)

pub predictor_refused : (x : Read Predictor) (w : Refusal) → Err w ≡ predictor_read x → x ≡ refused w
predictor_refused = was_refused Ok Err (λ a b e. cc) (λ r s e. cc) (λ a r e. cc)

pub coder_refused : (x : Read Coder) (w : Refusal) → Err w ≡ coder_read x → x ≡ refused w
coder_refused = was_refused Ok Err (λ a b e. cc) (λ r s e. cc) (λ a r e. cc)

pub table_refused : (x : Read (List Bool)) (w : Refusal) → Err w ≡ table_read x → x ≡ refused w
table_refused (got t l) w e = absurd_path (cc)
table_refused (refused v) w e = cc

pub record Table (x : Read (List Bool)) : Type 0 where
  pub table : List Bool
  pub behind : List Bool
  pub is : x ≡ got table behind

pub table_passed : (x : Read (List Bool)) → (Ok tt) ≡ table_read x → Table x
table_passed (got t l) e = record { table = t; behind = l; is = refl }
table_passed (refused v) e = absurd_path (cc)

-- ---- behind a part that was answered

pub image_done : (F : List Bool) (I : Image) → Ok I ≡ image_read (read_image F) → ImageDone F I
image_done F I e =
    let g = was_got Ok Err (λ a b e. cc) (λ r s e. cc) (λ a r e. cc) (read_image F) I e in
    image_got F g.behind I g.is

module _ (F : List Bool) (I : Image) (P : Predictor) where
  pub predictor_done : ImageDone F I → Ok P ≡ predictor_read (read_predictor I (drop image_bits F)) → PredictorDone F I P
  predictor_done d e =
      let g = was_got Ok Err (λ a b e. cc) (λ r s e. cc) (λ a r e. cc) (read_predictor I (drop image_bits F)) P e in
      predictor_got F I P g.behind d g.is

  pub weights_done : (size : ℕ) → PredictorDone F I P → Ok tt ≡ table_read (read_weights I P (drop predictor_end F)) → size ≡ weights_size I P → WeightsDone F I P (predictor_end + size)
  weights_done size d e q =
      let g = table_passed (read_weights I P (drop predictor_end F)) e in
      rw q (weights_got F I P g.table g.behind d g.is)

pub coder_done : (F : List Bool) (S : Settings) (at : ℕ) → WeightsDone F S.image S.predictor at → Ok S.coder ≡ coder_read (read_coder S.image (drop at F)) → CoderDone F S (at + coder_bits)
coder_done F S at d e =
    let g = was_got Ok Err (λ a b e. cc) (λ r s e. cc) (λ a r e. cc) (read_coder S.image (drop at F)) S.coder e in
    coder_got F S at g.behind d g.is

-- ---- a refusal, or the end

module _ (F : List Bool) (w : Refusal) where
  pub refused_at_image : read_image F ≡ refused w → read_header F ≡ refused w
  unfolding read_header
  refused_at_image e = rw e

  pub refused_at_predictor : (I : Image) → ImageDone F I → read_predictor I (drop image_bits F) ≡ refused w → read_header F ≡ refused w
  unfolding read_header
  refused_at_predictor I d e = rw (d.image, e)

  pub refused_at_weights : (I : Image) (P : Predictor) → PredictorDone F I P → read_weights I P (drop predictor_end F) ≡ refused w → read_header F ≡ refused w
  unfolding read_header
  refused_at_weights I P d e = rw (d.before.image, d.predictor, e)

  pub refused_at_coder : (I : Image) (P : Predictor) (at : ℕ) → WeightsDone F I P at → read_coder I (drop at F) ≡ refused w → read_header F ≡ refused w
  unfolding read_header
  refused_at_coder I P at d e = rw (d.before.before.image, d.before.predictor, d.weights, e)

  pub refused_at_accumulators : (S : Settings) (at : ℕ) → CoderDone F S at → read_accumulators S.image S.coder (drop at F) ≡ refused w → read_header F ≡ refused w
  unfolding read_header
  refused_at_accumulators S at d e = rw (d.before.before.before.image, d.before.before.predictor, d.before.weights, d.coder, e)

pub begins : (F : List Bool) (S : Settings) (at size : ℕ) → CoderDone F S at → (Ok tt) ≡ table_read (read_accumulators S.image S.coder (drop at F)) → size ≡ accumulators_size S.image S.coder → Begins F S (at + size)
begins F S at size d e q =
    let g = table_passed (read_accumulators S.image S.coder (drop at F)) e in
    let a = read_accumulators_lem S.image S.coder (drop at F) g.behind g.table g.is in
    let b = behind F (cond S.coder.tabled (filled 8 g.table) []) g.behind at size (coder_facts F S at d).fits a.same
    (length_accumulators_part S.image S.coder g.table a.long ∙ sym q) in
    let h : Header = record { settings = S; tables = tables_of S d.before.table g.table } in
    record {
      header = h;
      read = header_got F S at g.table g.behind d g.is ∙ ap (got h) b.same;
      settings = refl;
      fits = b.fits;
    }

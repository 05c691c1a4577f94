-- What each part answers is what the definition reads next: a refusal is the header's, and what was read goes on to the next part.
use Rattle.std.proofs.Common.{sym, ◌∙◌, arith}
use Rattle.std.proofs.lemmas.Result.{err_from_is_err_and}
use Rattle.header_values.proofs.Positions.{predictor_facts, coder_facts}
use Rattle.settings.specs.declared.Settings.{Settings}
use Rattle.header_reader.proofs.HeaderReading.{image_refused, predictor_refused, coder_refused, table_refused, image_done, predictor_done, weights_done, coder_done, begins, refused_at_image, refused_at_predictor, refused_at_weights, refused_at_coder, refused_at_accumulators}
use Rattle.header_reader.proofs.read.read_header.Goals as goal

pub returns-in_err-image : goal.returns-in_err-image
returns-in_err-image c =
    let p = err_from_is_err_and c.from_residual.result c.from_residual.ensures.1 in
    rw (p.1, p.2) (refused_at_image _ _ (image_refused _ _ (sym c.in_err-image.was ∙ c.read_image.ensures)))

pub returns-in_err-predictor : goal.returns-in_err-predictor
returns-in_err-predictor c =
    let image = image_done _ _ (sym c.in_ok-image.was ∙ c.read_image.ensures) in
    let r = c.from_residual-in_err-predictor in
    let p = err_from_is_err_and r.result r.ensures.1 in
    rw (p.1, p.2) (refused_at_predictor _ _ _ image (predictor_refused _ _ (sym c.in_err-predictor.was ∙ c.read_predictor.ensures)))

pub read_weights-requires : goal.read_weights-requires
read_weights-requires c =
    let image = image_done _ _ (sym c.in_ok-image.was ∙ c.read_image.ensures) in
    let f = predictor_facts _ _ _ (predictor_done _ _ _ image (sym c.in_ok-predictor.was ∙ c.read_predictor.ensures)) in
    (f.legal, f.image.bands, f.fits)

pub returns-in_err-read_weights : goal.returns-in_err-read_weights
returns-in_err-read_weights c =
    let image = image_done _ _ (sym c.in_ok-image.was ∙ c.read_image.ensures) in
    let predictor = predictor_done _ _ _ image (sym c.in_ok-predictor.was ∙ c.read_predictor.ensures) in
    let r = c.from_residual-in_err-read_weights in
    let p = err_from_is_err_and r.result r.ensures.1 in
    rw (p.1, p.2) (refused_at_weights _ _ _ _ predictor (table_refused _ _ (sym c.in_err-read_weights.was ∙ c.read_weights.ensures)))

pub weights_size-requires : goal.weights_size-requires
weights_size-requires c =
    let image = image_done _ _ (sym c.in_ok-image.was ∙ c.read_image.ensures) in
    let f = predictor_facts _ _ _ (predictor_done _ _ _ image (sym c.in_ok-predictor.was ∙ c.read_predictor.ensures)) in
    (f.legal, f.image.bands)

pub returns-in_err-coder : goal.returns-in_err-coder
returns-in_err-coder c =
    let image = image_done _ _ (sym c.in_ok-image.was ∙ c.read_image.ensures) in
    let predictor = predictor_done _ _ _ image (sym c.in_ok-predictor.was ∙ c.read_predictor.ensures) in
    let weights = weights_done _ _ _ _ predictor (sym c.in_ok-read_weights.was ∙ c.read_weights.ensures) c.weights_size.ensures.0 in
    let r = c.from_residual-in_err-coder in
    let p = err_from_is_err_and r.result r.ensures.1 in
    rw (p.1, p.2) (refused_at_coder _ _ _ _ _ weights (coder_refused _ _ (sym c.in_err-coder.was ∙ c.read_coder.ensures)))

pub read_accumulators-requires : goal.read_accumulators-requires
read_accumulators-requires c =
    let image = image_done _ _ (sym c.in_ok-image.was ∙ c.read_image.ensures) in
    let predictor = predictor_done _ _ _ image (sym c.in_ok-predictor.was ∙ c.read_predictor.ensures) in
    let weights = weights_done _ _ _ _ predictor (sym c.in_ok-read_weights.was ∙ c.read_weights.ensures) c.weights_size.ensures.0 in
    let S : Settings = record { image = c.in_ok-image.image; predictor = c.in_ok-predictor.predictor; coder = c.in_ok-coder.coder } in
    let f = coder_facts _ _ _ (coder_done _ S _ weights (sym c.in_ok-coder.was ∙ c.read_coder.ensures)) in
    rw c.behind-coded.ensures (f.before.image.depth, f.before.image.bands, omega (arith, f.small), f.fits)

pub returns-in_err-read_accumulators : goal.returns-in_err-read_accumulators
returns-in_err-read_accumulators c =
    let image = image_done _ _ (sym c.in_ok-image.was ∙ c.read_image.ensures) in
    let predictor = predictor_done _ _ _ image (sym c.in_ok-predictor.was ∙ c.read_predictor.ensures) in
    let weights = weights_done _ _ _ _ predictor (sym c.in_ok-read_weights.was ∙ c.read_weights.ensures) c.weights_size.ensures.0 in
    let S : Settings = record { image = c.in_ok-image.image; predictor = c.in_ok-predictor.predictor; coder = c.in_ok-coder.coder } in
    let coder = coder_done _ S _ weights (sym c.in_ok-coder.was ∙ c.read_coder.ensures) in
    let r = c.from_residual-in_err-read_accumulators in
    let p = err_from_is_err_and r.result r.ensures.1 in
    rw (p.1, p.2) (refused_at_accumulators _ _ _ _ coder (table_refused _ _ (sym c.in_err-read_accumulators.was ∙ (rw c.behind-coded.ensures at c.read_accumulators.ensures))))

pub accumulators_size-requires : goal.accumulators_size-requires
accumulators_size-requires c =
    let image = image_done _ _ (sym c.in_ok-image.was ∙ c.read_image.ensures) in
    (predictor_facts _ _ _ (predictor_done _ _ _ image (sym c.in_ok-predictor.was ∙ c.read_predictor.ensures))).image.bands

pub returns : goal.returns
returns c =
    let image = image_done _ _ (sym c.in_ok-image.was ∙ c.read_image.ensures) in
    let predictor = predictor_done _ _ _ image (sym c.in_ok-predictor.was ∙ c.read_predictor.ensures) in
    let weights = weights_done _ _ _ _ predictor (sym c.in_ok-read_weights.was ∙ c.read_weights.ensures) c.weights_size.ensures.0 in
    let S : Settings = record { image = c.in_ok-image.image; predictor = c.in_ok-predictor.predictor; coder = c.in_ok-coder.coder } in
    let coder = coder_done _ S _ weights (sym c.in_ok-coder.was ∙ c.read_coder.ensures) in
    rw c.behind-coded.ensures (begins _ _ _ _ coder (sym c.in_ok-read_accumulators.was ∙ (rw c.behind-coded.ensures at c.read_accumulators.ensures)) c.accumulators_size.ensures.0)

-- The fixed parts and the tables are whole bytes, and no table's values change its length.
use mathlib.Core.Bool.{true, ◌&&◌, and-eq-true_iff}
use mathlib.Core.Path.{◌≡◌}
use Rattle.header.specs.SizeLaws.{bytes_of_header}
use Rattle.settings.specs.Legal.{settings_legal, image_legal, predictor_legal, coder_legal}
use Rattle.settings.specs.LegalLaws.{limited_facts}
use Rattle.settings.specs.declared.Settings.{Settings}
use Rattle.header.proofs.sizes.header_bytes.Goals as goal

predictor_legal_lem : (S : Settings) → settings_legal S ≡ true → predictor_legal S.image S.predictor ≡ true
unfolding settings_legal
predictor_legal_lem S e =
    ((and-eq-true_iff (image_legal S.image) (predictor_legal S.image S.predictor)).0
    ((and-eq-true_iff (image_legal S.image && predictor_legal S.image S.predictor) (coder_legal S.image S.coder)).0 e).0).1

pub weights_size-requires : goal.weights_size-requires
weights_size-requires c = (predictor_legal_lem c.args.s c.requires.0, (limited_facts _ c.requires.1).few_bands)

pub accumulators_size-requires : goal.accumulators_size-requires
accumulators_size-requires c = (limited_facts _ c.requires.1).few_bands

pub returns : goal.returns
returns c = bytes_of_header c.args.s _ _ c.weights_size.ensures.0 c.accumulators_size.ensures.0

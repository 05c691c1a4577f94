-- How far a header is read off the file F: each part behind those before it, at a position that stands for the bits behind it.
use Rattle.std.specs.Prelude.{◌≡◌, Bool, List, ℕ, ◌+◌, drop}
use Rattle.refusals.specs.Reading.{got}
use Rattle.settings.specs.declared.Image.{Image}
use Rattle.settings.specs.declared.Predictor.{Predictor}
use Rattle.settings.specs.declared.Settings.{Settings}
use Rattle.header.specs.Parts.{image_bits, coder_bits, predictor_end}
use Rattle.header.specs.Read.{read_image, read_predictor, read_weights, read_coder}
use Rattle.header.specs.Sizes.{weights_size}

-- behind the image's part
pub record ImageDone (F : List Bool) (I : Image) : Type 0 where
  pub image : read_image F ≡ got I (drop image_bits F)

-- behind the predictor's part
pub record PredictorDone (F : List Bool) (I : Image) (P : Predictor) : Type 0 where
  pub before : ImageDone F I
  pub predictor : read_predictor I (drop image_bits F) ≡ got P (drop predictor_end F)

-- behind the weight table, at the position `at`
pub record WeightsDone (F : List Bool) (I : Image) (P : Predictor) (at : ℕ) : Type 0 where
  pub before : PredictorDone F I P
  pub place : at ≡ predictor_end + weights_size I P
  pub table : List Bool
  pub weights : read_weights I P (drop predictor_end F) ≡ got table (drop at F)

-- behind the coder's part, at the position `at`
pub record CoderDone (F : List Bool) (S : Settings) (at : ℕ) : Type 0 where
  pub from : ℕ
  pub before : WeightsDone F S.image S.predictor from
  pub place : at ≡ from + coder_bits
  pub coder : read_coder S.image (drop from F) ≡ got S.coder (drop at F)

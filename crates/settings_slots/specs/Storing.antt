-- Which settings slots can hold, and the slots part by part.
use Rattle.std.specs.Prelude.{List, [], ◌∷◌, ◌^◌, ◌<◌, ℤ, pos}
use Rattle.settings.specs.declared.Image.{Image}
use Rattle.settings.specs.declared.Predictor.{Predictor}
use Rattle.settings.specs.declared.Coder.{Coder}
use Rattle.settings.specs.declared.Settings.{Settings}
use Rattle.settings_slots.specs.Slots.{flag_slot}

-- each number of the image's part is below 2^31
pub record SmallImage (I : Image) : Type 0 where
  pub nx_small : I.nx < 2 ^ 31
  pub ny_small : I.ny < 2 ^ 31
  pub nz_small : I.nz < 2 ^ 31
  pub depth_small : I.depth < 2 ^ 31
  pub interleave_small : I.interleave < 2 ^ 31
  pub word_small : I.word < 2 ^ 31

-- of the predictor's part
pub record SmallPredictor (P : Predictor) : Type 0 where
  pub bands_small : P.bands < 2 ^ 31
  pub register_small : P.register < 2 ^ 31
  pub resolution_small : P.resolution < 2 ^ 31
  pub interval_small : P.interval < 2 ^ 31
  pub precision_small : P.precision < 2 ^ 31

-- of the coder's part
pub record SmallCoder (C : Coder) : Type 0 where
  pub unary_small : C.unary < 2 ^ 31
  pub rescaling_small : C.rescaling < 2 ^ 31
  pub initial_small : C.initial < 2 ^ 31
  pub constant_small : C.constant < 2 ^ 31

-- of all three
pub record Small (S : Settings) : Type 0 where
  pub image_small : SmallImage S.image
  pub predictor_small : SmallPredictor S.predictor
  pub coder_small : SmallCoder S.coder

-- the slots of the image's part
unfoldable pub image_slots : Image → List ℤ
image_slots I =
    pos I.user ∷ pos I.nx ∷ pos I.ny ∷ pos I.nz ∷ flag_slot I.signed ∷ pos I.depth ∷ flag_slot I.sequential
    ∷ pos I.interleave ∷ pos I.word ∷ []

-- of the predictor's part
unfoldable pub predictor_slots : Predictor → List ℤ
predictor_slots P =
    pos P.bands ∷ flag_slot P.reduced ∷ flag_slot P.column ∷ pos P.register ∷ pos P.resolution ∷ pos P.interval
    ∷ P.vmin ∷ P.vmax ∷ flag_slot P.custom ∷ pos P.precision ∷ []

-- of the coder's part
unfoldable pub coder_slots : Coder → List ℤ
coder_slots C = pos C.unary ∷ pos C.rescaling ∷ pos C.initial ∷ flag_slot C.tabled ∷ pos C.constant ∷ []

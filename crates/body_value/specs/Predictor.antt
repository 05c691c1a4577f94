-- The predictor's half of a value: from the weights that slots hold, whatever they are, to what the definition makes of them.
use Rattle.std.specs.Prelude.{◌≡◌, true, List, ℕ, zero, suc, ◌^◌, ◌<◌, ◌≤◌, ℤ, nat_abs, length, take}
use Rattle.settings.specs.declared.Settings.{Settings}
use Rattle.settings.specs.Legal.{limited}
use Rattle.settings.specs.Tables.{component_count}
use Rattle.settings.specs.Range.{in_range}
use Rattle.predictor.specs.Differences.{image_of, components_at}
use Rattle.predictor.specs.WeightUpdate.{scaled_error, next_weights}
use Rattle.predictor.specs.Mapping.{mapped, unmapped}
use Rattle.predictor.specs.Band.{scaled_with, weights_behind}
use Rattle.predictor.specs.Each.{Each}
use Rattle.predictor.specs.SizeLaws.{Size}
use Rattle.predictor.specs.Asks as asks
use Rattle.body_value.specs.declared.plan.Plan.{Plan}
use Rattle.body_value.specs.declared.Place.{Place}
use Rattle.body_value.specs.Plan.{Inside}

-- the components of a place
abbrev pub count : Plan → Place → ℕ
count P p = component_count P.settings.predictor p.z

-- slots whose first n hold weights that the predictor can work with: a loop can test it
pub record Weights (n : ℕ) (slots : List ℤ) : Type 0 where
  pub long : length slots ≡ 18
  pub small : Each (Size (2 ^ 21)) (take n slots)

-- a place of an image in range, and slots of its band
pub record Predicting (P : Plan) (samples ws : List ℤ) (p : Place) : Type 0 where
  pub image : asks.Given P.settings samples
  pub here : Inside P p
  pub fit : Weights (count P p) ws

-- s~ with the weights held, and the components that it is made of
pub record Predicted (P : Plan) (samples ws : List ℤ) (p : Place) (us : List ℤ) (s~ : ℤ) : Type 0 where
  pub scaled_is : s~ ≡ scaled_with P.settings (image_of P.settings.image samples) p.z p.t (take (count P p) ws)
  pub components_are : 0 < p.t → take (count P p) us ≡ components_at P.settings (image_of P.settings.image samples) p.z p.t
  pub long : length us ≡ 18

-- components and a prediction to learn from
pub record Learning (P : Plan) (ws us : List ℤ) (s~ : ℤ) (p : Place) : Type 0 where
  pub within : limited P.settings.image ≡ true
  pub here : Inside P p
  pub fit : Weights (count P p) ws
  pub long : length us ≡ 18
  pub small : 0 < p.t → Each (Size (2 ^ 19)) (take (count P p) us)
  pub scaled_small : nat_abs s~ ≤ 2 ^ 18

-- the weights behind value t with sample s, by its components
unfoldable pub learnt : Settings → ℕ → ℤ → ℤ → List ℤ → List ℤ → List ℤ
learnt S zero s s~ us ws = ws
learnt S (suc t) s s~ us ws = next_weights S (suc t) (scaled_error s s~) us ws

pub record Learnt (P : Plan) (ws us : List ℤ) (s~ s : ℤ) (p : Place) (ws' : List ℤ) : Type 0 where
  pub weights : take (count P p) ws' ≡ learnt P.settings p.t s s~ (take (count P p) us) (take (count P p) ws)
  pub fit : Weights (count P p) ws'

-- the mapped value of the sample at a place under the weights held, and the weights behind it
pub record Mapped (P : Plan) (samples ws : List ℤ) (p : Place) (ws' : List ℤ) (δ : ℕ) : Type 0 where
  pub delta_is : δ ≡ mapped P.settings (scaled_with P.settings (image_of P.settings.image samples) p.z p.t (take (count P p) ws))
      (image_of P.settings.image samples p.z p.t)
  pub weights : take (count P p) ws'
      ≡ weights_behind P.settings (image_of P.settings.image samples) p.z p.t (image_of P.settings.image samples p.z p.t) (take (count P p) ws)
  pub fit : Weights (count P p) ws'
  pub small : δ < 2 ^ P.settings.image.depth

-- and back: the sample of a mapped value
pub record Restored (P : Plan) (samples ws : List ℤ) (p : Place) (δ : ℕ) (ws' : List ℤ) (s : ℤ) : Type 0 where
  pub sample_is : s ≡ unmapped P.settings (scaled_with P.settings (image_of P.settings.image samples) p.z p.t (take (count P p) ws)) δ
  pub weights : take (count P p) ws' ≡ weights_behind P.settings (image_of P.settings.image samples) p.z p.t s (take (count P p) ws)
  pub fit : Weights (count P p) ws'
  pub in_range_lem : in_range P.settings.image s ≡ true

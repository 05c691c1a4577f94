-- One value of a band through its slots: safe whatever they hold, and right where they hold the band's state.
use Rattle.std.specs.Prelude.{◌≡◌, Bool, List, ◌∷◌, ℕ, suc, ◌+◌, ◌^◌, ◌<◌, ◌≤◌, ℤ, length, take, drop, set, Result, Ok, Err}
use Rattle.bitstream.specs.declared.write.Tail.{Tail}
use Rattle.bitstream.specs.declared.read.Unread.{Unread}
use Rattle.bitstream.specs.declared.read.Unread.TheVariants.{Short, Bad}
use Rattle.bitstream.specs.Writer.{Put}
use Rattle.refusals.specs.declared.Refusal.TheVariants.{BodyEnds, BadCodeword}
use Rattle.settings.specs.declared.Settings.{Settings}
use Rattle.refusals.specs.declared.Refusal.{Refusal}
use Rattle.refusals.specs.Reading.{refused}
use Rattle.settings.specs.Tables.{component_count, scratch_stride}
use Rattle.predictor.specs.Differences.{Image, index_of, image_of}
use Rattle.predictor.specs.Band.{weights_at, mapped_at}
use Rattle.predictor.specs.Asks as asks
use Rattle.coder.specs.Statistics.{statistics_at}
use Rattle.coder.specs.Asks as coder
use Rattle.body.specs.Order as order
use Rattle.body.specs.Body.{code, read_body}
use Rattle.body_value.specs.declared.plan.Plan.{Plan}
use Rattle.body_value.specs.declared.Place.{Place}
use Rattle.body_value.specs.declared.Cursor.{Cursor}
use Rattle.body_value.specs.Plan.{Inside}
use Rattle.body_value.specs.Predictor.{Weights}
use Rattle.body_value.specs.Coder.{statistics_in, Counts}

-- ---- a band's slots: the weights in the first 18, the statistics behind them

-- they hold numbers that both halves can work with
pub record Fits (P : Plan) (z : ℕ) (slots : List ℤ) : Type 0 where
  pub long : length slots ≡ scratch_stride
  pub weights : Weights (component_count P.settings.predictor z) (take 18 slots)
  pub counts : Counts P.settings (take 14 (drop 18 slots))

-- they hold the state of band z before value t
pub record Held (S : Settings) (tables : List ℤ) (I : Image) (z t : ℕ) (slots : List ℤ) : Type 0 where
  pub weights : take (component_count S.predictor z) (take 18 slots) ≡ weights_at S tables I z t
  pub statistics : statistics_in (take 14 (drop 18 slots)) ≡ statistics_at S tables z (mapped_at S tables I z) t

-- ---- begun

-- slots for a band of legal tables
pub record Startable (P : Plan) (tables slots : List ℤ) (z : ℕ) : Type 0 where
  pub begins : coder.Beginning P.settings tables z
  pub long : length slots ≡ scratch_stride

-- they hold its state before its first value, whatever the image
pub record Started (P : Plan) (tables : List ℤ) (z : ℕ) (slots : List ℤ) : Type 0 where
  pub fits : Fits P z slots
  pub held : (I : Image) → Held P.settings tables I z 0 slots

-- ---- one value

-- a place as the order has it
abbrev pub place_of : Place → order.Place
place_of p = record { z = p.z; t = p.t }

-- ---- written

pub record Writing (P : Plan) (samples slots : List ℤ) (k : Tail) (p : Place) : Type 0 where
  pub image : asks.Given P.settings samples
  pub here : Inside P p
  pub fits : Fits P p.z slots
  pub room : k.at < 2 ^ 58

pub record Wrote (P : Plan) (samples slots : List ℤ) (k : Tail) (out : List ℕ) (p : Place) (slots' : List ℤ) (k' : Tail) (out' : List ℕ) : Type 0 where
  pub bits : List Bool
  pub put : Put k out bits k' out'
  pub few : length bits ≤ 64
  pub fits : Fits P p.z slots'
  pub means : (tables : List ℤ) → Held P.settings tables (image_of P.settings.image samples) p.z p.t slots
      → (bits ≡ code P.settings tables (image_of P.settings.image samples) (place_of p))
      × Held P.settings tables (image_of P.settings.image samples) p.z (suc p.t) slots'

-- ---- read

pub record Reading (P : Plan) (samples slots : List ℤ) (c : Cursor) (p : Place) : Type 0 where
  pub image : asks.Given P.settings samples
  pub here : Inside P p
  pub fits : Fits P p.z slots
  pub room : c.at < 2 ^ 58
  pub count : c.rank < 2 ^ 58

pub record Placed (P : Plan) (F : List Bool) (samples slots : List ℤ) (c : Cursor) (p : Place) (c' : Cursor) (samples' slots' : List ℤ) : Type 0 where
  pub value : ℤ
  pub stored : samples' ≡ set samples (index_of P.settings.image p.z p.t) value
  pub image : asks.Given P.settings samples'
  pub fits : Fits P p.z slots'
  pub next : c'.rank ≡ suc c.rank
  pub few : c'.at ≤ c.at + 64
  pub inside : c'.at ≤ length F
  pub means : (tables : List ℤ) → Held P.settings tables (image_of P.settings.image samples) p.z p.t slots
      → ((qs : List order.Place) → read_body P.settings tables c.rank (place_of p ∷ qs) samples (drop c.at F)
      ≡ read_body P.settings tables c'.rank qs samples' (drop c'.at F))
      × Held P.settings tables (image_of P.settings.image samples') p.z (suc p.t) slots'

-- why the body is refused where the value of rank n is not read (document 01, 9 and 10)
abbrev pub refused_at : ℕ → Unread → Refusal
refused_at n Short = BodyEnds n
refused_at n Bad = BadCodeword n

-- what an answer says
abbrev pub Stepped : Plan → List Bool → List ℤ → List ℤ → Cursor → Place → List ℤ → List ℤ → Result Cursor Refusal → Type 0
Stepped P F samples slots c p samples' slots' (Ok c') = Placed P F samples slots c p c' samples' slots'
Stepped P F samples slots c p samples' slots' (Err r) =
    (tables : List ℤ) → Held P.settings tables (image_of P.settings.image samples) p.z p.t slots
    → (qs : List order.Place) → read_body P.settings tables c.rank (place_of p ∷ qs) samples (drop c.at F) ≡ refused r

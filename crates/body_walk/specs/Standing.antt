-- Where the bands stand between two values of the walk: before which value each, and what their slots hold.
use Rattle.std.specs.Prelude.{◌≡◌, cond, List, [], ◌∷◌, ℕ, suc, ◌*◌, ◌<◌, ◌≤◌, eqb, ℤ, length, take, drop}
use Rattle.settings.specs.declared.Settings.{Settings}
use Rattle.settings.specs.Tables.{scratch_stride}
use Rattle.predictor.specs.Differences.{Image}
use Rattle.body.specs.Order.{Place}
use Rattle.body_value.specs.declared.plan.Plan.{Plan}
use Rattle.body_value.specs.Value.{Fits, Held}

-- the slots of band z
unfoldable pub part : List ℤ → ℕ → List ℤ
part scratch z = take scratch_stride (drop (scratch_stride * z) scratch)

-- the slots of every band hold numbers that the walk can work with: a loop can test it
pub record Fit (P : Plan) (scratch : List ℤ) : Type 0 where
  pub long : scratch_stride * P.settings.image.nz ≤ length scratch
  pub each : (b : ℕ) → b < P.settings.image.nz → Fits P b (part scratch b)

-- band b stands before value f b, and its slots hold the state there
pub record Stand (S : Settings) (tables : List ℤ) (I : Image) (scratch : List ℤ) (f : ℕ → ℕ) : Type 0 where
  pub within : (b : ℕ) → b < S.image.nz → f b ≤ S.image.nx * S.image.ny
  pub held : (b : ℕ) → b < S.image.nz → Held S tables I b (f b) (part scratch b)

-- a place may come next: its band stands there, and no band above it stands further on
pub record Next (f : ℕ → ℕ) (p : Place) : Type 0 where
  pub here : f p.z ≡ p.t
  pub ahead : (b : ℕ) → p.z < b → f b ≤ p.t

-- where the bands stand behind a place, and behind places
unfoldable pub bump : (ℕ → ℕ) → Place → ℕ → ℕ
bump f p b = cond (eqb b p.z) (suc (f b)) (f b)

abbrev pub after : (ℕ → ℕ) → List Place → ℕ → ℕ
after f [] = f
after f (p ∷ ps) = after (bump f p) ps

-- the places may come one after the other
abbrev pub Along : (ℕ → ℕ) → List Place → Type 0
Along f [] = Unit {0}
Along f (p ∷ ps) = Next f p × Along (bump f p) ps

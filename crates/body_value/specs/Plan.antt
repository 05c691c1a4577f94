-- A place of the image that a plan is for.
use Rattle.std.specs.Prelude.{◌≡◌, ◌*◌, ◌%◌, ◌<◌}
use Rattle.body_value.specs.declared.plan.Plan.{Plan}
use Rattle.body_value.specs.declared.Place.{Place}

-- a place of the image
pub record Inside (P : Plan) (p : Place) : Type 0 where
  pub band_in : p.z < P.settings.image.nz
  pub place_in : p.t < P.settings.image.nx * P.settings.image.ny
  pub column_is : p.x ≡ p.t % P.settings.image.nx

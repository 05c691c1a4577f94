-- `predictor_steps::weights::error_not_negative` meets its contract: every number on the way fits.
use Rattle.std.proofs.Common.{to_z-of_z}
use Rattle.predictor_steps.proofs.WeightFits.{Error, error_fits}
use Rattle.predictor_steps.proofs.weights.error_not_negative.Goals as goal

pub returns : goal.returns
returns c =
    let at : Error c.args.sample c.args.scaled =
    error_fits c.args.sample c.args.scaled c.ranges.sample c.ranges.scaled c.requires in
    search (to_z-of_z, at)

-- The first sample beyond an end is the first out of range.
use Rattle.checks.proofs.Searches.{found}
use Rattle.checks.proofs.range.first_out.Goals as goal

pub returns : goal.returns
returns c =
    found c.args.i c.args.samples.now c.of.ensures.0 c.of.ensures.2 c.first_outside.ensures

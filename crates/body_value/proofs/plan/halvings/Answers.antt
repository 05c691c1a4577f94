-- How often a number is halved is the logarithm that the library finds.
use Rattle.body_value.proofs.Plans.{halvings_is}
use Rattle.body_value.proofs.plan.halvings.Goals as goal

pub returns : goal.returns
returns c = halvings_is c.args.x c.max.result c.ilog2.result c.requires c.max.ensures c.ilog2.ensures.power_le c.ilog2.ensures.next_power_gt

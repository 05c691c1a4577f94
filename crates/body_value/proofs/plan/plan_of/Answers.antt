-- Each number is what the invariant says that it is.
use Rattle.body_value.proofs.Plans.{depth_in, interval_most, planned}
use Rattle.body_value.proofs.plan.plan_of.Goals as goal

pub of-range-requires : goal.of-range-requires
of-range-requires c = depth_in c.args.s c.requires

pub halvings-interval-requires : goal.halvings-interval-requires
halvings-interval-requires c = interval_most c.args.s c.requires

pub invariant_of-result : goal.invariant_of-result
invariant_of-result c =
    record { planned = planned c.args.s c.requires c.of-range.ensures c.halvings-interval.ensures }

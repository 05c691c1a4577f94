-- The halves one after the other, each with its own slots.
use Rattle.body_value.proofs.Values.{coding, wrote}
use Rattle.body_value.proofs.value.write_value.Goals as goal

pub coded-requires : goal.coded-requires
coded-requires c =
    coding c.requires c.mapped_here-delta.ensures

pub returns : goal.returns
returns c =
    wrote c.requires c.mapped_here-delta.ensures c.coded.ensures

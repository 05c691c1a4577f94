-- What the loop has passed holds what it stores.
use Rattle.std.proofs.Common.{◌≡◌, All, take}
use Rattle.replay_areas.proofs.areas.prepare.Given as goal

abbrev pub invariant-loop-place : goal.invariant-loop-place
invariant-loop-place g l = All (λ x. x ≡ g.T.Element.BEFORE) (take l.place-index l.place-items)

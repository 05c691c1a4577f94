-- The first test that fails decides.
use borrow.Author.Tests.{lt-ltb, le-ltb}
use Rattle.refusals.specs.Tests.{first_hit}
use Rattle.settings_slots.specs.Slots.{slots_checked}
use Rattle.settings_slots.proofs.slots.slots_checked.Goals as goal

pub returns-then-l-lt-SLOTS : goal.returns-then-l-lt-SLOTS
unfolding slots_checked first_hit
returns-then-l-lt-SLOTS c = rw (lt-ltb _ _ c.if-l-lt-SLOTS.true)

pub returns-then-not-holds : goal.returns-then-not-holds
unfolding slots_checked first_hit
returns-then-not-holds c = rw (le-ltb _ _ c.if-l-lt-SLOTS.false, ← c.holds.ensures, c.if-not-holds.true)

pub returns : goal.returns
unfolding slots_checked first_hit
returns c = rw (le-ltb _ _ c.if-l-lt-SLOTS.false, ← c.holds.ensures, c.if-not-holds.false)

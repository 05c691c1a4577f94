-- No bits are zero, and others are a number that the test compares. The check finds the second answer too: it stands so that another test is
-- refused for what it compares.
use Rattle.std.proofs.Common.{ℕ, eqb, ap}
use Rattle.bitstream.specs.Stream.{number}
use Rattle.header_reader.proofs.read.fill_clear.Goals as goal

pub returns-then-width-eq0 : goal.returns-then-width-eq0
unfolding number
returns-then-width-eq0 c = rw c.if-width-eq0.true

pub returns : goal.returns
returns c = ap (λ (n : ℕ). eqb n 0) c.number_at.ensures

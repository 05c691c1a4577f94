-- The window's highest bits are the next bits, and they are zeros exactly when their number is 0.
use native.Mathlib.Omega.{arith}
use lib.ListN.{drop, length-drop}
use Rattle.bitstream.specs.Stream.{unpack}
use Rattle.header.specs.Fields.{same}
use Rattle.closing.proofs.Endings.{window_same}
use borrow.Author.Rules.{rules}
use Rattle.closing.proofs.ending.zero_field.Goals as goal

pub returns-then-count-eq0 : goal.returns-then-count-eq0
unfolding same
returns-then-count-eq0 c = rw c.if-count-eq0.true

pub returns : goal.returns
returns c =
    let a = c.args in
    window_same a.count c.window.result (drop a.bits.at (unpack a.bits.file.now)) (omega arith)
    (rw (length-drop) (omega arith)) (search rules) c.window.ensures

-- The field is shifted in below the bits that wait; from 32 on four bytes are stored. Assumes nothing.
use mathlib.Core.Path.{refl}
use native.Mathlib.Omega.{arith}
use Rattle.bitstream.proofs.Writes.{stays, flushed}
use borrow.Author.Rules.{rules}
use Rattle.bitstream.proofs.write.Tail.put.Goals as goal

pub returns-then-count-lt32 : goal.returns-then-count-lt32
returns-then-count-lt32 c =
    let a = c.args in
    stays a.self a.out.now a.value a.width _ (search rules) (omega arith) refl _

pub returns : goal.returns
returns c =
    let a = c.args in
    let s = c.store_word in
    flushed a.self a.out.now a.value a.width _ (search rules) (omega arith) refl s.new.out _ (omega arith) s.auto.out s.ensures

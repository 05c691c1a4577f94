-- The highest bits of the window are the field. Assumes nothing.
use native.Mathlib.Nat.{lt_of_lt_of_le}
use native.Mathlib.Omega.{arith}
use lib.Pow.{pow_mono}
use Rattle.bitstream.proofs.Windows.{found_short, found_value, top_lt}
use Rattle.bitstream.proofs.read.Bits.get.Goals as goal

pub returns-then-self-next : goal.returns-then-self-next
returns-then-self-next c =
    let a = c.args in
    found_short a.self.file.now a.self.at a.width (omega arith)

pub overflow_cast-result-2 : goal.overflow_cast-result-2
overflow_cast-result-2 c =
    let a = c.args in
    record { fits = lt_of_lt_of_le (top_lt c.window.result a.width (omega arith) (omega arith)) (pow_mono {j = 32} (omega arith)) }

pub returns : goal.returns
returns c =
    let a = c.args in
    found_value a.self.file.now a.self.at a.width c.window.result (omega arith) (omega arith) (omega arith) c.window.ensures

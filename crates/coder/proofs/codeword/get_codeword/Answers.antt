-- The leading zeros of the window decide which kind of codeword stands there, and its next bits are the value. Assumes nothing.
use native.Mathlib.Nat.{lt_of_lt_of_le}
use native.Mathlib.Omega.{arith}
use lib.Pow.{pow_mono}
use Rattle.coder.proofs.Codewords.{small_sub, small_lt, one_short, one_bad, one_value, full_short, full_lt, full_bad, full_value}
use Rattle.coder.proofs.codeword.get_codeword.Goals as goal

pub returns-then-bits-next : goal.returns-then-bits-next
returns-then-bits-next c =
    let b = c in
    let w = c.window-x in
    one_short c.args.depth c.args.limit c.args.k c.args.bits.file.now c.args.bits.at w.result (omega arith) w.ensures c.requires (omega arith) (omega arith)

pub overflow_sub-value : goal.overflow_sub-value
overflow_sub-value c = small_sub c.window-x.result c.args.k (omega arith) (omega arith) (omega arith)

pub overflow_add-value : goal.overflow_add-value
overflow_add-value c = omega (arith, small_lt c.window-x.result c.args.k (omega arith) (omega arith) (omega arith))

pub overflow_cast-value-then-u-limit-3 : goal.overflow_cast-value-then-u-limit-3
overflow_cast-value-then-u-limit-3 c = omega (arith, small_lt c.window-x.result c.args.k (omega arith) (omega arith) (omega arith))

pub returns-then-value-depth-gt0 : goal.returns-then-value-depth-gt0
returns-then-value-depth-gt0 c =
    let b = c in
    let w = c.window-x in
    one_bad c.args.depth c.args.limit c.args.k c.args.bits.file.now c.args.bits.at w.result (omega arith) w.ensures c.requires (omega arith) (omega arith) (omega arith)

pub returns-then-u-limit : goal.returns-then-u-limit
returns-then-u-limit c =
    let b = c in
    let w = c.window-x in
    one_value c.args.depth c.args.limit c.args.k c.args.bits.file.now c.args.bits.at w.result (omega arith) w.ensures c.requires (omega arith) (omega arith) (omega arith)

pub returns-then-bits-next-2 : goal.returns-then-bits-next-2
returns-then-bits-next-2 c =
    let b = c in
    let w = c.window-x in
    full_short c.args.depth c.args.limit c.args.k c.args.bits.file.now c.args.bits.at w.result (omega arith) w.ensures c.requires (omega arith) (omega arith)

pub overflow_cast-value-3 : goal.overflow_cast-value-3
overflow_cast-value-3 c =
    let b = c in
    let w = c.window-x in
    record { fits = lt_of_lt_of_le (full_lt c.args.depth c.args.limit c.args.k c.args.bits.file.now c.args.bits.at w.result (omega arith) w.ensures c.requires (omega arith)) (pow_mono {j = 32} (omega arith)) }

pub returns-then-value-k : goal.returns-then-value-k
returns-then-value-k c =
    let b = c in
    let w = c.window-x in
    full_bad c.args.depth c.args.limit c.args.k c.args.bits.file.now c.args.bits.at w.result (omega arith) w.ensures c.requires (omega arith) (omega arith) (omega arith)

pub returns : goal.returns
returns c =
    let b = c in
    let w = c.window-x in
    full_value c.args.depth c.args.limit c.args.k c.args.bits.file.now c.args.bits.at w.result (omega arith) w.ensures c.requires (omega arith) (omega arith) (omega arith)

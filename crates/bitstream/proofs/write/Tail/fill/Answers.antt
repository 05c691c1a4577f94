-- The zeros are at most 63, so two fields hold them. Assumes nothing.
use mathlib.Core.Path.{◌≡◌}
use Prim.Native.Nat.{◌+◌, ◌*◌, ◌/◌}
use native.Mathlib.Nat.{mod-lt, le_of_lt}
use native.Mathlib.Omega.{arith}
use lib.ListN.{length}
use lib.Pow.{pow_pos}
use Rattle.bitstream.proofs.Laws.{length_bits, filling_lt}
use Rattle.bitstream.specs.Stream.{bits, filling}
use Rattle.bitstream.proofs.Writes.{put_as, put_then, zeros_two}
use Rattle.bitstream.proofs.write.Tail.fill.Goals as goal

pub overflow_sub-more : goal.overflow_sub-more
overflow_sub-more c = le_of_lt (mod-lt _ (omega arith))

pub overflow_cast-more : goal.overflow_cast-more
overflow_cast-more c =
    let a = c.args in
    let l = filling_lt (8 * a.b) (8 * a.self.at + a.self.count) (omega arith) in
    omega arith

pub put-first-requires : goal.put-first-requires
put-first-requires c =
    let a = c.args in
    let l = filling_lt (8 * a.b) (8 * a.self.at + a.self.count) (omega arith) in
    (omega arith, pow_pos _, omega arith)

pub put-requires : goal.put-requires
put-requires c =
    let a = c.args in
    let l = filling_lt (8 * a.b) (8 * a.self.at + a.self.count) (omega arith) in
    let p = c.put-first.ensures in
    let z : length (bits (filling (8 * a.b) (8 * a.self.at + a.self.count) / 2) 0) ≡ filling (8 * a.b) (8 * a.self.at + a.self.count) / 2 = length_bits _ _ in
    (omega arith, pow_pos _, omega (arith, p.size))

pub returns : goal.returns
returns c =
    let a = c.args in
    put_as (zeros_two (filling (8 * a.b) (8 * a.self.at + a.self.count))) (put_then c.put-first.ensures c.put.ensures)

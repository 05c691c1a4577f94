-- A codeword is one field, or two side by side. Assumes nothing.
use mathlib.Core.Path.{◌≡◌}
use Prim.Native.Nat.{◌/◌, ◌^◌}
use native.Mathlib.Omega.{arith}
use lib.ListN.{length}
use lib.Pow.{pow_pos}
use Rattle.bitstream.specs.Stream.{bits}
use Rattle.bitstream.proofs.Laws.{length_bits}
use Rattle.bitstream.proofs.Writes.{put_as, put_then}
use Rattle.coder.proofs.Codewords.{one_pos, tag_lt, codeword_one, codeword_two, codeword_escape}
use borrow.Author.Rules.{rules}
use Rattle.coder.proofs.codeword.put_codeword.Goals as goal

pub nonzero_rem-tag : goal.nonzero_rem-tag
nonzero_rem-tag c = one_pos c.args.k (omega arith)

pub put-requires : goal.put-requires
put-requires c =
    let a = c.args in
    (omega arith, tag_lt a.k a.value (a.value / 2 ^ a.k) (omega arith), omega arith)

pub returns-then-width-le32 : goal.returns-then-width-le32
returns-then-width-le32 c =
    let a = c.args in
    put_as (codeword_one a.depth a.limit a.k a.value (omega arith) (omega arith)) c.put.ensures

pub put-zeros-requires : goal.put-zeros-requires
put-zeros-requires c = (omega arith, pow_pos _, omega arith)

pub put-requires-then-u-limit : goal.put-requires-then-u-limit
put-requires-then-u-limit c =
    let a = c.args in
    let p = c.put-zeros.ensures in
    let z : length (bits (a.value / 2 ^ a.k) 0) ≡ a.value / 2 ^ a.k = length_bits _ _ in
    (omega arith, tag_lt a.k a.value 0 (omega arith), omega (arith, p.size))

pub returns-then-u-limit : goal.returns-then-u-limit
returns-then-u-limit c =
    let a = c.args in
    put_as (codeword_two a.depth a.limit a.k a.value (omega arith) (omega arith)) (put_then c.put-zeros.ensures c.put-then-u-limit.ensures)

pub put-zeros-requires-2 : goal.put-zeros-requires-2
put-zeros-requires-2 c = (omega arith, pow_pos _, omega arith)

pub put-requires-2 : goal.put-requires-2
put-requires-2 c =
    let a = c.args in
    let p = c.put-zeros-2.ensures in
    let z : length (bits a.limit 0) ≡ a.limit = length_bits _ _ in
    (omega arith, search rules, omega (arith, p.size))

pub returns : goal.returns
returns c =
    let a = c.args in
    put_as (codeword_escape a.depth a.limit a.k a.value (omega arith)) (put_then c.put-zeros-2.ensures c.put-2.ensures)

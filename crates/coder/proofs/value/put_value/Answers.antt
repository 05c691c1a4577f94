-- The k is the definition's, and it is at most 14, as a codeword's is.
use mathlib.Core.Path.{ap}
use Prim.Native.Nat.{ℕ}
use native.Mathlib.Omega.{arith}
use Rattle.bitstream.proofs.Writes.{put_as}
use Rattle.coder.specs.Codeword.{codeword}
use Rattle.coder.specs.StatisticsLaws.{parameter_most}
use Rattle.coder.proofs.value.put_value.Goals as goal

pub put_codeword-requires : goal.put_codeword-requires
put_codeword-requires c =
    let q = c in
    let e = c.code_parameter-k.ensures in
    let m = parameter_most c.args.depth c.args.s in
    let p = c.requires in
    (p.depth_most, p.unary_most, let d = p.depth_most in omega arith, p.delta_fits, p.room)

pub returns : goal.returns
returns c =
    let a = c.args in
    let e = c.code_parameter-k.ensures in
    put_as (ap (λ (k : ℕ). codeword a.depth a.unary k a.delta) e) c.put_codeword.ensures

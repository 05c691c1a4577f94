-- The k searched is the one that the writer chose.
use native.Mathlib.Omega.{arith}
use Rattle.coder.specs.StatisticsLaws.{parameter_most}
use Rattle.coder.proofs.value.get_value.Goals as goal

pub get_codeword-requires : goal.get_codeword-requires
get_codeword-requires c =
    let q = c in
    let k = parameter_most c.args.depth c.args.s in
    let e = c.code_parameter-k.ensures in
    (let d = c.requires.depth_least in omega arith, c.requires.depth_most, c.requires.unary_most, let d = c.requires.depth_most in omega arith, c.requires.room)

pub returns : goal.returns
returns c = rw c.code_parameter-k.ensures at c.get_codeword.ensures

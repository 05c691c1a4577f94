-- The q bits of a weight are there.
use mathlib.Core.Path.{sym, subst}
use Prim.Native.Nat.{ℕ, ◌+◌, ◌*◌, ◌^◌, ◌<◌}
use native.Mathlib.Omega.{arith}
use lib.ListN.{drop}
use Rattle.bitstream.specs.Stream.{unpack}
use Rattle.header.specs.Parts.{predictor_end}
use Rattle.header.specs.FieldLaws.{number_take_lt}
use Rattle.header_values.proofs.StoreLaws.{weight_from}
use Rattle.header_values.proofs.store.weight_at.Goals as goal

pub overflow_add-weight : goal.overflow_add-weight
overflow_add-weight c =
    let there = weight_from _ c.args.s c.args.entries.at c.requires.0 c.args.z c.args.i c.args.first c.requires.1 c.requires.2 c.requires.3 c.requires.4 in
    omega (arith, there.few)

pub overflow_mul-weight : goal.overflow_mul-weight
overflow_mul-weight c =
    let there = weight_from _ c.args.s c.args.entries.at c.requires.0 c.args.z c.args.i c.args.first c.requires.1 c.requires.2 c.requires.3 c.requires.4 in
    omega (arith, there.small)

pub overflow_add-weight-2 : goal.overflow_add-weight-2
overflow_add-weight-2 c =
    let there = weight_from _ c.args.s c.args.entries.at c.requires.0 c.args.z c.args.i c.args.first c.requires.1 c.requires.2 c.requires.3 c.requires.4 in
    omega (arith, there.small)

pub number_at-requires : goal.number_at-requires
number_at-requires c =
    let there = weight_from _ c.args.s c.args.entries.at c.requires.0 c.args.z c.args.i c.args.first c.requires.1 c.requires.2 c.requires.3 c.requires.4 in
    (there.least, omega (arith, there.most), omega (arith, there.small), there.room)

pub signed_of-requires : goal.signed_of-requires
signed_of-requires c =
    let there = weight_from _ c.args.s c.args.entries.at c.requires.0 c.args.z c.args.i c.args.first c.requires.1 c.requires.2 c.requires.3 c.requires.4 in
    let a = c.args in
    (there.least, there.most, subst (λ (n : ℕ). n < 2 ^ a.s.predictor.precision) (sym c.number_at.ensures) (number_take_lt a.s.predictor.precision (drop (predictor_end + a.s.predictor.precision * (a.first + a.i)) (unpack a.entries.file.now))))

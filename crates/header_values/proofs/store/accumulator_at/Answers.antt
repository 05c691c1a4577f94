-- The four bits of a band are there.
use mathlib.Core.Path.{ap}
use Prim.Native.Nat.{◌+◌, ◌*◌, ◌^◌, ◌<◌}
use native.Mathlib.Omega.{arith}
use lib.IntN.{pos}
use lib.ListN.{drop}
use mir.Facts.{to_z_pos}
use mir.Syntax.{w32}
use Rattle.bitstream.specs.Stream.{unpack}
use Rattle.header.specs.FieldLaws.{number_take_lt}
use Rattle.header_values.proofs.StoreLaws.{entry_in}
use Rattle.header_values.proofs.store.accumulator_at.Goals as goal

pub behind-requires : goal.behind-requires
behind-requires c =
    let there = entry_in _ c.args.s c.args.entries.at c.requires.0 c.args.z c.requires.1 c.requires.2 in
    omega (arith, there.small)

pub number_at-requires : goal.number_at-requires
number_at-requires c =
    let there = entry_in _ c.args.s c.args.entries.at c.requires.0 c.args.z c.requires.1 c.requires.2 in
    rw c.behind.ensures (omega arith, omega arith, omega (arith, there.small), there.room)

pub overflow_cast-result : goal.overflow_cast-result
overflow_cast-result c =
    let small : c.number_at.result < 2 ^ 31 =
    let a = c.args in omega (arith, (rw c.behind.ensures at c.number_at.ensures), number_take_lt 4 (drop (a.entries.at + 4 * a.z) (unpack a.entries.file.now))) in
    record { sfits = small }

pub returns : goal.returns
returns c =
    let small : c.number_at.result < 2 ^ 31 =
    let a = c.args in omega (arith, (rw c.behind.ensures at c.number_at.ensures), number_take_lt 4 (drop (a.entries.at + 4 * a.z) (unpack a.entries.file.now))) in
    rw (to_z_pos w32 small) (ap pos (rw c.behind.ensures at c.number_at.ensures))

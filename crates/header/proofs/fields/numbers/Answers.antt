-- Each turn reads the field behind those read before.
use Rattle.std.proofs.Common.{◌+◌, ◌≤◌, get_or, refl, arith}
use Rattle.bitstream.specs.Stream.{unpack}
use Rattle.header.specs.FieldLaws.{total}
use Rattle.header.proofs.Numbers.{Width, fitting_at, reads_begin, reads_more, reads_all, reads_room}
use Rattle.header.proofs.fields.numbers.Goals as goal

pub loop-i-init : goal.loop-i-init
loop-i-init c = (refl, reads_begin _ _ _ _ c.requires.1)

pub number_at-requires : goal.number_at-requires
number_at-requires c =
    let width : Width (get_or c.args.widths.now c.loop-i.i 0) = fitting_at _ _ c.requires.0 (omega arith) in
    let room : c.loop-i.rest.at + get_or c.args.widths.now c.loop-i.i 0 ≤ c.args.bits.at + total c.args.widths.now =
    reads_room (unpack c.args.bits.file.now) _ _ _ c.requires.1 _ _ _ c.loop-i.invariant.1 (omega arith) in
    (width.least, omega (arith, width.most), omega (arith, room), rw c.loop-i.invariant.0 (omega (arith, room)))

pub behind-rest-requires : goal.behind-rest-requires
behind-rest-requires c =
    let room : c.loop-i.rest.at + get_or c.args.widths.now c.loop-i.i 0 ≤ c.args.bits.at + total c.args.widths.now =
    reads_room (unpack c.args.bits.file.now) _ _ _ c.requires.1 _ _ _ c.loop-i.invariant.1 (omega arith) in
    omega (arith, room)

pub loop-i-preserved : goal.loop-i-preserved
loop-i-preserved c =
    rw c.behind-rest.ensures
    (c.loop-i.invariant.0, reads_more _ _ _ _ c.requires.1 _ _ _ _ c.loop-i.invariant.1 (omega arith) (rw c.loop-i.invariant.0 at c.number_at.ensures))

pub returns : goal.returns
returns c = reads_all _ _ _ _ c.requires.1 _ _ _ c.loop-i.invariant.1 (omega arith)

-- The entries, and the zeros that their number asks for.
use Rattle.std.proofs.Common.{arith}
use borrow.Author.Tests.{not-true, not-false}
use Rattle.bitstream.proofs.Writes.{put_as, put_none}
use Rattle.header.proofs.WriteLaws.{facts, put_filled, accumulator_part_is, no_accumulator_part}
use Rattle.header.specs.TableLaws.{length_accumulators}
use Rattle.header.proofs.write.write_accumulators.Goals as goal

pub returns-then-not-s : goal.returns-then-not-s
returns-then-not-s c = put_as (no_accumulator_part _ _ (not-true _ c.if-not-s.true)) (put_none _ _)

pub write_fill-requires : goal.write_fill-requires
write_fill-requires c =
    let p = c.write_entries-tail.ensures in
    let few = (facts _ _ c.requires.0).bands in
    (omega (arith, few), omega (arith, p.size, length_accumulators c.args.s.image.nz c.args.tables.now, few))

pub returns : goal.returns
returns c =
    put_as (accumulator_part_is c.args.s c.args.tables.now (not-false _ c.if-not-s.false))
    (put_filled _ _ (length_accumulators c.args.s.image.nz c.args.tables.now) c.write_entries-tail.ensures c.write_fill.ensures)

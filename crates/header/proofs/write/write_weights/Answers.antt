-- The weights, and the zeros that their number asks for.
use Rattle.std.proofs.Common.{sym, ◌∙◌, arith}
use borrow.Author.Tests.{not-true, not-false}
use Rattle.bitstream.proofs.Writes.{put_as, put_none}
use Rattle.header.proofs.WriteLaws.{facts, put_filled, weight_part_is, no_weight_part}
use Rattle.header.specs.TableLaws.{length_weights}
use Rattle.header.proofs.write.write_weights.Goals as goal

pub returns-then-not-s : goal.returns-then-not-s
returns-then-not-s c = put_as (no_weight_part _ _ (not-true _ c.if-not-s.true)) (put_none _ _)

pub weight_bits-requires : goal.weight_bits-requires
weight_bits-requires c = let f = facts _ _ c.requires.0 in (f.predictor, f.bands, not-false _ c.if-not-s.false)

pub write_fill-requires : goal.write_fill-requires
write_fill-requires c =
    let p = c.write_bands-tail.ensures in
    (omega (arith, c.weight_bits.ensures), omega (arith, p.size, length_weights c.args.s.predictor c.args.s.image.nz c.args.tables.now, c.weight_bits.ensures))

pub returns : goal.returns
returns c =
    put_as (weight_part_is c.args.s c.args.tables.now (not-false _ c.if-not-s.false))
    (put_filled _ _ (length_weights c.args.s.predictor c.args.s.image.nz c.args.tables.now ∙ sym c.weight_bits.ensures.0) c.write_bands-tail.ensures c.write_fill.ensures)

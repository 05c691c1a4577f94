-- Each turn gives the next slot its value, and the last one leaves the band.
use Rattle.std.proofs.Common.{◌≡◌, ◌∙◌, to_z, of_z, w32, arith}
use Rattle.std.proofs.lemmas.Grind.{common_steps}
use mir.Facts.{to_z-of_z}
use Rattle.bitstream.specs.Stream.{unpack}
use Rattle.integers.specs.Laws.{ok}
use Rattle.header_values.specs.Storing.{slot_in}
use Rattle.header_values.proofs.StoreLaws.{band_laid}
use Rattle.header_values.proofs.store.store_band.Goals as goal

pub loop-i-preserved : goal.loop-i-preserved
loop-i-preserved c =
    let value : to_z w32 (of_z w32 c.slot_at.result) ≡ slot_in (unpack c.args.entries.file.now) c.args.s c.args.entries.at c.args.first c.args.z c.loop-i.i =
    to_z-of_z (ok w32 c.slot_at.result c.slot_at.type_inv) ∙ c.slot_at.ensures in
    λ k h. grind (arith, common_steps, value, c.loop-i.invariant k)

pub returns : goal.returns
returns c =
    band_laid _ c.args.s _ c.args.first _ _ _ _ (omega arith) c.requires.0 c.requires.1 c.requires.2 c.requires.3 (omega arith) (λ i h. c.loop-i.invariant i (omega arith))

-- The lowest q bits are those of a weight.
use mir.Facts.{to_z-of_z}
use Rattle.header.proofs.Signs.{low_bits}
use Rattle.header.proofs.write.twos.Goals as goal

pub returns : goal.returns
returns c =
    let low = low_bits _ _ c.args.v c.power_of.ensures c.requires.0 c.requires.1 c.requires.2 in
    rw (c.cast_unsigned.ensures, to_z-of_z c.ranges.v) (low.is, low.most)

-- A word that shows the bits from its first byte on shows, shifted, those from a position in that byte on. Assumes nothing.
use Rattle.bitstream.proofs.Windows.{sees}
use Rattle.bitstream.proofs.read.Bits.window.Goals as goal

pub returns-then-p-self : goal.returns-then-p-self
returns-then-p-self c = sees c.args.self.file.now c.args.self.at _ c.load.ensures.shown

pub returns : goal.returns
returns c = sees c.args.self.file.now c.args.self.at _ c.load_tail.ensures

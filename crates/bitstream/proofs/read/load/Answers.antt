-- The word of eight bytes shows their bits.
use Rattle.std.proofs.Common.{◌≡◌, arith}
use Rattle.bitstream.specs.Reader.{word_at}
use Rattle.bitstream.proofs.Windows.{word_sees}
use Rattle.bitstream.proofs.read.load.Goals as goal

pub returns-clause-shown : goal.returns-clause-shown
returns-clause-shown c =
    let word : c.from_be_bytes.result ≡ word_at c.args.s.now c.args.p = c.from_be_bytes.ensures in
    rw word (word_sees c.args.s.now c.args.p (λ i. omega (arith, c.type_inv.s i)) c.requires)

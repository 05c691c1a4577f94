-- Each turn moves eight bits from the word to a byte; the stream stays the same.
use Rattle.std.proofs.Common.{◌≡◌, ◌+◌, ◌-◌, ◌*◌, ◌<◌, [], length}
use Rattle.bitstream.specs.Writer.{Put}
use Rattle.bitstream.proofs.write.Tail.finish.Given as goal

abbrev pub invariant-bytes : goal.invariant-bytes
invariant-bytes l = ((few : l.fn.self.count - 8 * l.i < 32) → Put l.fn.self l.initial.out [] (record { word = l.fn.self.word; count = l.fn.self.count - 8 * l.i; at = l.fn.self.at + l.i; few = few }) l.out) × (length l.out ≡ length l.initial.out)

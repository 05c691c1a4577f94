-- The loop reads the bytes as one number, whose bits are theirs.
use Rattle.std.proofs.Common.{◌≡◌, ◌-◌, ◌≤◌, length, take, drop}
use Rattle.bitstream.specs.Stream.{number, unpack}
use Rattle.bitstream.proofs.read.load_tail.Given as goal

abbrev pub invariant-bytes : goal.invariant-bytes
invariant-bytes l = (l.byte-index ≤ length l.fn.s - l.fn.p) × (l.x ≡ number (unpack (take l.byte-index (drop l.fn.p l.fn.s))))

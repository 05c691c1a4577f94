-- Each turn gives the next slot its value.
use Rattle.std.proofs.Common.{◌≡◌, ℕ, ◌<◌, get_or, pos}
use Rattle.bitstream.specs.Stream.{unpack}
use Rattle.header_values.specs.Storing.{slot_in}
use Rattle.header_values.proofs.store.store_band.Given as goal

abbrev pub invariant-loop-i : goal.invariant-loop-i
invariant-loop-i l = (k : ℕ) → k < l.i → get_or l.slots k (pos 0) ≡ slot_in (unpack l.entries.file.now) l.s l.entries.at l.first l.z k

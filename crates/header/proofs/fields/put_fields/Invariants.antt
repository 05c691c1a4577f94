-- Each turn puts the field behind those put before.
use Rattle.std.proofs.Common.{length}
use Rattle.header.proofs.Joins.{Joins, field_at}
use Rattle.header.proofs.fields.put_fields.Given as goal

abbrev pub invariant-loop-width : goal.invariant-loop-width
invariant-loop-width l = Joins (field_at l.widths l.values) 16 (length l.widths) l.initial.tail l.initial.out (length l.yielded) l.tail l.out

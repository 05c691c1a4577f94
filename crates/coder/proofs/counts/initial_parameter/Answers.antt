-- k' is read off the table where the settings say so.
use mathlib.Core.Path.{◌∙◌}
use Rattle.coder.proofs.Firsts.{slot_in_lem, slot_natural, from_table, from_all}
use Rattle.coder.proofs.counts.initial_parameter.Goals as goal

pub natural-requires : goal.natural-requires
natural-requires c = let s = c in (slot_in_lem c.requires, slot_natural c.requires c.if-s.true)

pub returns-then-s : goal.returns-then-s
returns-then-s c = c.natural.ensures ∙ from_table c.requires c.if-s.true

pub returns : goal.returns
returns c = from_all c.requires c.if-s.false

-- Every band before the one that the loop has reached is legal, so one that is not decides, and so does the end.
use Rattle.std.proofs.Common.{◌≡◌, true}
use Rattle.settings.specs.Tables.{every, band_legal}
use Rattle.checks.proofs.tables.tables_legal.Given as goal

abbrev pub invariant-loop-z : goal.invariant-loop-z
invariant-loop-z l = every l.z (band_legal l.s l.tables) ≡ true

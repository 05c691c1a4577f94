-- Half of the values, a power below 2^31, and its negative fit 32 bits.
use Rattle.std.proofs.Common.{◌-◌, ◌<◌, ◌^◌, arith, w32, to_z-of_z}
use Rattle.std.proofs.Math.Facts.{to_z_pos}
use Rattle.settings.specs.Tables.{weight_legal}
use Rattle.settings.specs.Words.{negated, power_of}
use Rattle.checks.proofs.tables.weight_legal.Goals as goal

small : (c : goal.After-power_of-half) → c.power_of-half.result < 2 ^ 31
small c = (power_of c.power_of-half.result (c.args.q - 1) c.power_of-half.ensures (omega arith)).small

pub overflow_cast-half : goal.overflow_cast-half
overflow_cast-half c = record { sfits = small c }

pub overflow_sub-result : goal.overflow_sub-result
overflow_sub-result c = (negated c.power_of-half.result (small c)).fits

pub returns : goal.returns
unfolding weight_legal
returns c = rw ((negated c.power_of-half.result (small c)).is, to_z_pos w32 (small c), to_z-of_z c.ranges.v, c.power_of-half.ensures)

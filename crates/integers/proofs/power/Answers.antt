-- `integers::power` meets its contract: the shifted 1 loses no bit, and below 2^63 the sign bit stays clear.
use Rattle.std.proofs.Common.{refl, arith}
use Rattle.std.proofs.Math.Pow.{pow-lt}
use Rattle.std.proofs.Math.Facts.{to_z_pos}
use Rattle.std.proofs.lemmas.Grind.{one_shifted}
use Rattle.std.specs.Int.{w64}
use Rattle.integers.proofs.power.Goals as goal

pub returns : goal.returns
returns c = rw ((one_shifted c.args.k 18446744073709551615 refl (omega arith)).0) (to_z_pos w64 (pow-lt c.requires))

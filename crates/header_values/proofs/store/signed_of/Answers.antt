-- A number in the upper half stands for itself less 2^q.
use mathlib.Core.Path.{refl}
use Prim.Native.Nat.{◌-◌, ◌^◌, ◌<◌}
use native.Mathlib.Omega.{arith}
use mir.Facts.{to_z_pos}
use mir.Syntax.{w32}
use Rattle.header.proofs.Signs.{small_power}
use Rattle.header_values.proofs.StoreLaws.{signed_low, lowering}
use Rattle.header_values.proofs.store.signed_of.Goals as goal

pub returns-then-v-power_of : goal.returns-then-v-power_of
returns-then-v-power_of c =
    let small : c.args.v < 2 ^ 31 =
    let p = small_power c.args.q (2 ^ c.args.q) refl c.requires.1 in omega (arith, c.requires.2) in
    let k : c.args.v < 2 ^ (c.args.q - 1) = omega (arith, c.if-v-power_of.true, c.power_of.ensures) in
    rw (to_z_pos w32 small) (signed_low c.args.q c.args.v k)

pub overflow_cast-result-3 : goal.overflow_cast-result-3
overflow_cast-result-3 c = record { sfits = small_power _ _ c.power_of-2.ensures c.requires.1 }

pub overflow_sub-result : goal.overflow_sub-result
overflow_sub-result c =
    let high = lowering c.args.q c.args.v c.power_of.result c.power_of-2.result c.power_of.ensures c.power_of-2.ensures c.requires.1 c.requires.2 c.if-v-power_of.false in
    high.fits

pub returns : goal.returns
returns c =
    let high = lowering c.args.q c.args.v c.power_of.result c.power_of-2.result c.power_of.ensures c.power_of-2.ensures c.requires.1 c.requires.2 c.if-v-power_of.false in
    high.is

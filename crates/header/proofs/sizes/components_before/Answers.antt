-- The sum is that of the bands passed, at most 18 a band.
use Rattle.std.proofs.Common.{sym, arith}
use Rattle.header.specs.SizeLaws.{no_components, more_components}
use Rattle.settings.specs.TableLaws.{components_fit}
use Rattle.header.proofs.sizes.components_before.Goals as goal

pub loop-z-init : goal.loop-z-init
loop-z-init c = (sym (no_components c.args.p), omega arith)

pub overflow_add-sum : goal.overflow_add-sum
overflow_add-sum c = omega (arith, components_fit c.args.p c.loop-z.z c.requires.0)

pub loop-z-preserved : goal.loop-z-preserved
loop-z-preserved c =
    let p = c.args.p in
    let z = c.loop-z.z in
    (omega (arith, more_components p z), omega (arith, components_fit p z c.requires.0))

-- Legal settings have few components, of few bits.
use mathlib.Core.Path.{ap}
use Prim.Native.Nat.{ℕ, ◌*◌}
use native.Mathlib.Omega.{arith}
use Rattle.header.specs.SizeLaws.{bits_most, precision_most}
use Rattle.settings.specs.LegalLaws.{legal_predictor}
use Rattle.header.proofs.sizes.weight_bits.Goals as goal

pub components_before-requires : goal.components_before-requires
components_before-requires c = ((legal_predictor _ _ c.requires.0).bands_most, omega arith)

pub returns : goal.returns
returns c =
    (ap (λ (n : ℕ). c.args.p.precision * n) c.components_before.ensures.0, bits_most _ _ (precision_most _ _ c.requires.0 c.requires.2) (omega arith))

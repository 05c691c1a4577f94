-- Default weights take no bits, and custom weights the bits of their table with its fill.
use mathlib.Core.Path.{◌≡◌, sym, ap, ◌∙◌}
use mathlib.Core.Bool.{true}
use native.Mathlib.Omega.{arith}
use borrow.Author.Tests.{not-true, not-false}
use Rattle.header.specs.Sizes.{padded, weight_bits, weights_size}
use Rattle.settings.specs.declared.Image.{Image}
use Rattle.settings.specs.declared.Predictor.{Predictor}
use Rattle.header.specs.SizeLaws.{cond_true}
use Rattle.header.proofs.sizes.weights_size.Goals as goal

custom-size : (I : Image) (P : Predictor) → P.custom ≡ true → padded (weight_bits I P) ≡ weights_size I P
unfolding weights_size
custom-size I P e = sym (cond_true P.custom (padded (weight_bits I P)) 0 e)

pub returns-then-not-p : goal.returns-then-not-p
unfolding weights_size
returns-then-not-p c = (rw (not-true c.args.p.custom c.if-not-p.true), omega arith)

pub returns : goal.returns
returns c =
    let q = not-false _ c.if-not-p.false in
    (c.padded.ensures.0 ∙ ap padded c.weight_bits.ensures.0 ∙ custom-size _ _ q, omega arith)

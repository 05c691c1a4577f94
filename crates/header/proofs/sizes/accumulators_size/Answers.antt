-- One K takes no bits, and a table of k' four bits a band with its fill.
use mathlib.Core.Bool.{true}
use mathlib.Core.Path.{◌≡◌, sym, ◌∙◌}
use Prim.Native.Nat.{◌*◌}
use native.Mathlib.Omega.{arith}
use borrow.Author.Tests.{not-true, not-false}
use Rattle.header.specs.SizeLaws.{cond_true}
use Rattle.header.specs.Sizes.{padded, accumulators_size}
use Rattle.settings.specs.declared.Coder.{Coder}
use Rattle.settings.specs.declared.Image.{Image}
use Rattle.header.proofs.sizes.accumulators_size.Goals as goal

tabled-size : (I : Image) (C : Coder) → C.tabled ≡ true → padded (4 * I.nz) ≡ accumulators_size I C
unfolding accumulators_size
tabled-size I C e = sym (cond_true C.tabled (padded (4 * I.nz)) 0 e)

pub returns-then-not-c : goal.returns-then-not-c
unfolding accumulators_size
returns-then-not-c c = (rw (not-true c.args.c.tabled c.if-not-c.true), omega arith)

pub returns : goal.returns
returns c = (c.padded.ensures.0 ∙ tabled-size _ _ (not-false _ c.if-not-c.false), omega arith)

-- The file's length decides: what fits is stored, and what does not is cleared.
use mathlib.Core.Path.{◌≡◌, ◌∙◌, ap}
use Prim.Native.Nat.{ℕ}
use native.Mathlib.Omega.{arith}
use lib.ListN.{length, replicate}
use Rattle.cube.proofs.Packings.{packs_stored, packs_cleared}
use borrow.Author.Rules.{rules}
use Rattle.cube.proofs.pack.pack_fine.Goals as goal

pub returns-then-out-size : goal.returns-then-out-size
returns-then-out-size c =
    let a = c.args in
    let w = c.write_file-size in
    let l : length w.new.out ≡ length a.out.now = search rules in
    packs_cleared a.s a.tables.now a.samples.now a.scratch.now a.out.now _ _ c.requires w.ensures.size (omega (arith, c.if-out-size.true))
    (c.clear.ensures ∙ ap (λ (n : ℕ). replicate n 0) l)

pub returns : goal.returns
returns c =
    let a = c.args in
    let w = c.write_file-size in
    let l : length w.new.out ≡ length a.out.now = search rules in
    packs_stored a.s a.tables.now a.samples.now a.scratch.now a.out.now _ _ c.requires w.ensures l (omega (arith, c.if-out-size.false))

-- A slot that holds a natural number is that number as an unsigned one.
use mathlib.Core.Path.{sym, subst}
use lib.Dec.{T}
use lib.IntN.{ℤ, pos}
use lib.ListN.{get_or}
use lib.Signed.{non_neg}
use mir.Syntax.{w32}
use mir.Facts.{to_z-of_z, Fits-nat_abs}
use Rattle.integers.specs.Laws.{ok}
use Rattle.coder.proofs.counts.natural.Goals as goal

pub overflow_cast-result : goal.overflow_cast-result
overflow_cast-result c =
    let l = c.args.slots.now in
    let i = c.args.at in
    let s = ok w32 (get_or l i (pos 0)) c.result-1.given in
    let n : T (non_neg (get_or l i (pos 0))) = subst (λ (x : ℤ). T (non_neg x)) (sym c.requires.1) tt in
    simp (to_z-of_z, s) (n, Fits-nat_abs tt s)

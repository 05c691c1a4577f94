-- The sample of a mapped value under its prediction, and what is learnt from it.
use Rattle.std.proofs.Common.{w32, w64, to_z-of_z}
use Rattle.integers.proofs.Laws.{ok}
use Rattle.body_value.proofs.Predicts.{learning, unmapping, restored_so}
use Rattle.body_value.proofs.predicting.sample_here.Goals as goal

pub unmap_residual-sample-requires : goal.unmap_residual-sample-requires
unmap_residual-sample-requires c =
    rw (to_z-of_z (ok w64 c.scaled_here-scaled.result c.scaled_here-scaled.type_inv)) (unmapping c.requires.0 c.scaled_here-scaled.ensures c.requires.1)

pub learn-requires : goal.learn-requires
learn-requires c =
    rw (to_z-of_z (ok w64 c.scaled_here-scaled.result c.scaled_here-scaled.type_inv)) (learning c.requires.0 c.scaled_here-scaled.ensures)

pub returns : goal.returns
returns c =
    let st-fits = ok w64 c.scaled_here-scaled.result c.scaled_here-scaled.type_inv in
    let s-fits = ok w32 c.unmap_residual-sample.result c.unmap_residual-sample.type_inv in
    rw (to_z-of_z s-fits)
    (restored_so c.requires.0 c.scaled_here-scaled.ensures _ _ _ c.requires.1 (simp (to_z-of_z, st-fits) at c.unmap_residual-sample.ensures) (simp (to_z-of_z, s-fits, st-fits) at c.learn.ensures))

-- The sample under its prediction, and what is learnt from it.
use Rattle.std.proofs.Common.{◌+◌, ◌*◌, pos, get_or, arith, rules, SFits, w32, w64, to_z-of_z}
use Rattle.integers.proofs.Laws.{ok}
use Rattle.body_value.proofs.Predicts.{index_in, index_small, sample_at, learning, mapping, mapped_so}
use Rattle.body_value.proofs.predicting.mapped_here.Goals as goal

pub overflow_mul-at : goal.overflow_mul-at
overflow_mul-at c = let h = index_small c.requires in omega arith

pub overflow_add-at : goal.overflow_add-at
overflow_add-at c = let h = index_small c.requires in omega arith

pub offset_bounds-image-at : goal.offset_bounds-image-at
offset_bounds-image-at c = let h = index_small c.requires in omega (arith, index_in c.requires)

pub bounds-image-at : goal.bounds-image-at
bounds-image-at c = index_in c.requires

pub learn-requires : goal.learn-requires
learn-requires c =
    rw (to_z-of_z (ok w64 c.scaled_here-scaled.result c.scaled_here-scaled.type_inv)) (learning c.requires c.scaled_here-scaled.ensures)

pub map_residual-requires : goal.map_residual-requires
map_residual-requires c =
    let st-fits = ok w64 c.scaled_here-scaled.result c.scaled_here-scaled.type_inv in
    let s-fits : let a = c.args in SFits w32 (get_or a.image.now (a.place.z * a.p.area + a.place.t) (pos 0)) = search rules in
    simp (to_z-of_z, s-fits, st-fits) (mapping c.requires c.scaled_here-scaled.ensures _ (sample_at c.requires))

pub returns : goal.returns
returns c =
    let st-fits = ok w64 c.scaled_here-scaled.result c.scaled_here-scaled.type_inv in
    let s-fits : let a = c.args in SFits w32 (get_or a.image.now (a.place.z * a.p.area + a.place.t) (pos 0)) = search rules in
    mapped_so c.requires c.scaled_here-scaled.ensures _ _ _ (sample_at c.requires) (simp (to_z-of_z, s-fits, st-fits) at c.map_residual.ensures) (simp (to_z-of_z, s-fits, st-fits) at c.learn.ensures)

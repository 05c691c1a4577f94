-- `predictor_steps::weights::exponent` meets its contract: the turns are small, the clip holds them to the settings, and the sum is at most 30 in size.
use Rattle.std.proofs.Common.{◌≡◌, ◌∙◌, ap, ℕ, ◌*◌, ◌^◌, ℤ, pos, ◌+ℤ◌, ◌-ℤ◌, arith, pow_pos, SFits, w32, w64, to_z, to_z-of_z}
use mir.Facts.{to_z_pos}
use Rattle.integers.specs.Integer.{floor_div, clip}
use Rattle.integers.proofs.Laws.{zs, ok, wide, sub, one0, abs_parts, clip_in, Sz, sz_abs, sz_add, sz_fits, sz_floor}
use Rattle.settings.specs.Limits.{most_samples}
use Rattle.predictor.specs.WeightUpdate.{exponent_by}
use Rattle.predictor.specs.Asks.{Schedule}
use Rattle.predictor_steps.proofs.WeightFits.{Exponent, exponent_fits}
use Rattle.predictor_steps.proofs.weights.exponent.Goals as goal

-- the unsigned numbers as integers, the first difference, the turns q and their clip v
module _ {t nx interval_log : ℕ} {vmin vmax : ℤ} {depth resolution : ℕ} (s : Schedule t nx interval_log vmin vmax depth resolution) where
  t-pos : to_z w64 t ≡ pos t
  t-pos = to_z_pos w64 (omega (arith, s.t_most))

  n_pos : to_z w64 nx ≡ pos nx
  n_pos = to_z_pos w64 (omega (arith, s.nx_most))

  d-pos : to_z w64 depth ≡ pos depth
  d-pos = to_z_pos w64 (omega (arith, s.depth_most))

  o-pos : to_z w64 resolution ≡ pos resolution
  o-pos = to_z_pos w64 (omega (arith, s.resolution_most))

  diff-size : Sz (2 * most_samples) (pos t -ℤ pos nx)
  diff-size = record { le = let h = (sub (pos t) (pos nx)).size in omega (arith, s.t_most, s.nx_most) }

  diff-fits : SFits w64 (pos t -ℤ pos nx)
  diff-fits = sz_fits diff-size tt

  vmin-fits : SFits w32 vmin
  vmin-fits = sz_fits (sz_abs vmin s.vmin_small) tt

  vmax-fits : SFits w32 vmax
  vmax-fits = sz_fits (sz_abs vmax s.vmax_small) tt

  module _ {q : ℤ} (q-is : q ≡ floor_div (pos t -ℤ pos nx) (2 ^ interval_log)) where
    sum_fits : SFits w64 (vmin +ℤ q)
    sum_fits =
        let z : Sz (2 * most_samples) q = rw q-is (sz_floor (2 ^ interval_log) (pow_pos interval_log) diff-size) in
        sz_fits (sz_add (sz_abs vmin s.vmin_small) z) tt

    parts : {v : ℤ} → SFits w64 v → v ≡ clip (vmin +ℤ q) vmin vmax → Exponent v depth resolution
    parts {v} fv e =
        let h = clip_in (vmin +ℤ q) vmin vmax s.ordered in
        let r = clip (vmin +ℤ q) vmin vmax in
        let z : Sz 9 v = rw e (record { le = omega (zs, h.0, h.1, one0 r, abs_parts vmin, abs_parts vmax, s.vmin_small, s.vmax_small) }) in
        exponent_fits v depth resolution fv z.le s.depth_most s.resolution_most

pub overflow_add-least : goal.overflow_add-least
overflow_add-least c =
    let s = c.requires in
    let l = vmin-fits s in
    let q-is = simp (to_z-of_z, diff-fits s) at (rw (t-pos s, n_pos s) at c.floor_shift-turns.ensures) in
    simp (to_z-of_z, l, wide l, ok w64 c.floor_shift-turns.result c.floor_shift-turns.type_inv) (sum_fits s q-is)

pub overflow_add-result : goal.overflow_add-result
overflow_add-result c =
    let s = c.requires in
    let l = vmin-fits s in
    let h = vmax-fits s in
    let q-is = simp (to_z-of_z, diff-fits s) at (rw (t-pos s, n_pos s) at c.floor_shift-turns.ensures) in
    let fq = ok w64 c.floor_shift-turns.result c.floor_shift-turns.type_inv in
    let v-is = simp (to_z-of_z, l, wide l, h, wide h, fq, sum_fits s q-is) at c.clip-clipped.ensures in
    let f = parts s q-is (ok w64 c.clip-clipped.result c.clip-clipped.type_inv) v-is in
    rw (d-pos s) (simp (to_z-of_z, f.v_64) f.vd)

pub overflow_sub-result : goal.overflow_sub-result
overflow_sub-result c =
    let s = c.requires in
    let l = vmin-fits s in
    let h = vmax-fits s in
    let q-is = simp (to_z-of_z, diff-fits s) at (rw (t-pos s, n_pos s) at c.floor_shift-turns.ensures) in
    let fq = ok w64 c.floor_shift-turns.result c.floor_shift-turns.type_inv in
    let v-is = simp (to_z-of_z, l, wide l, h, wide h, fq, sum_fits s q-is) at c.clip-clipped.ensures in
    let f = parts s q-is (ok w64 c.clip-clipped.result c.clip-clipped.type_inv) v-is in
    rw (d-pos s, o-pos s) (simp (to_z-of_z, f.v_64, f.vd) f.vdo)

pub overflow_cast-result-3 : goal.overflow_cast-result-3
overflow_cast-result-3 c =
    let s = c.requires in
    let l = vmin-fits s in
    let h = vmax-fits s in
    let q-is = simp (to_z-of_z, diff-fits s) at (rw (t-pos s, n_pos s) at c.floor_shift-turns.ensures) in
    let fq = ok w64 c.floor_shift-turns.result c.floor_shift-turns.type_inv in
    let v-is = simp (to_z-of_z, l, wide l, h, wide h, fq, sum_fits s q-is) at c.clip-clipped.ensures in
    let f = parts s q-is (ok w64 c.clip-clipped.result c.clip-clipped.type_inv) v-is in
    rw (d-pos s, o-pos s) (simp (to_z-of_z, f.v_64, f.vd, f.vdo) f.vdo_32)

pub returns : goal.returns
unfolding exponent_by
returns c =
    let s = c.requires in
    let a = c.args.s in
    let l = vmin-fits s in
    let h = vmax-fits s in
    let q-is = simp (to_z-of_z, diff-fits s) at (rw (t-pos s, n_pos s) at c.floor_shift-turns.ensures) in
    let fq = ok w64 c.floor_shift-turns.result c.floor_shift-turns.type_inv in
    let v-is = simp (to_z-of_z, l, wide l, h, wide h, fq, sum_fits s q-is) at c.clip-clipped.ensures in
    let f = parts s q-is (ok w64 c.clip-clipped.result c.clip-clipped.type_inv) v-is in
    let e = v-is ∙ ap (λ (q : ℤ). clip (a.predictor.vmin +ℤ q) a.predictor.vmin a.predictor.vmax) q-is in
    rw (d-pos s, o-pos s)
    (simp (to_z-of_z, f.v_64, f.vd, f.vdo, f.vdo_32) (ap (λ (v : ℤ). v +ℤ pos a.image.depth -ℤ pos a.predictor.resolution) e, f.small))

-- `predictor_steps::weights::weight_step` meets its contract: the gain is small, the clip's ends are the definition's, and what they hold fits.
use mathlib.Core.Path.{◌≡◌, ◌∙◌, ap}
use Prim.Native.Nat.{◌+◌, ◌^◌, ◌≤◌}
use native.Mathlib.Omega.{arith}
use lib.IntN.{ℤ, pos, nat_abs, ◌+ℤ◌, ◌-ℤ◌}
use mir.Syntax.{w32, w64}
use mir.Val.{SFits}
use mir.Facts.{to_z-of_z}
use Rattle.integers.specs.Integer.{clip, oriented}
use Rattle.integers.proofs.Laws.{ok, wide, sz_abs, sz_fits}
use Rattle.predictor.specs.Weights.{lowest_weight, highest_weight}
use Rattle.predictor.specs.WeightUpdate.{gain, weight_step}
use Rattle.predictor_steps.proofs.Gains.{ends}
use Rattle.predictor_steps.proofs.Sizes.{power_small, oriented_small, gain_small, step_small}
use Rattle.predictor_steps.proofs.WeightFits.{Step, step_fits}
use Rattle.predictor_steps.proofs.weights.weight_step.Goals as goal

pub overflow_add-w : goal.overflow_add-w
overflow_add-w c =
    let v-is : c.oriented-turned.result ≡ oriented c.args.up c.args.u =
    let f = c.ranges.u in simp (to_z-of_z, f, wide f) at c.oriented-turned.ensures in
    let v-small : nat_abs c.oriented-turned.result ≤ 2 ^ 19 =
    oriented_small c.args.up c.args.u c.oriented-turned.result v-is c.requires.1 in
    let g_is : c.gain-step.result ≡ gain c.args.rho c.oriented-turned.result =
    let o = c.oriented-turned in simp (to_z-of_z, c.ranges.rho, ok w64 o.result o.type_inv) at c.gain-step.ensures in
    let at : Step c.args.w c.gain-step.result c.power-top.result =
    let s = c in
    let g = c.gain-step in
    let o : c.args.resolution + 2 ≤ 21 = omega (arith, c.requires.3) in
    step_fits c.args.w g.result c.power-top.result c.ranges.w (ok w64 g.result g.type_inv)
    (ok w64 c.power-top.result c.power-top.type_inv)
    (rw g_is (gain_small c.args.rho c.oriented-turned.result v-small c.requires.2))
    (power_small (c.args.resolution + 2) 21 c.power-top.result o c.power-top.ensures) in
    let f = at in simp (to_z-of_z, f.w_32, f.w_64, f.g_64) f.wg

pub overflow_cast-result : goal.overflow_cast-result
unfolding weight_step
overflow_cast-result c =
    let v-is : c.oriented-turned.result ≡ oriented c.args.up c.args.u =
    let f = c.ranges.u in simp (to_z-of_z, f, wide f) at c.oriented-turned.ensures in
    let g_is : c.gain-step.result ≡ gain c.args.rho c.oriented-turned.result =
    let o = c.oriented-turned in simp (to_z-of_z, c.ranges.rho, ok w64 o.result o.type_inv) at c.gain-step.ensures in
    let v-small : nat_abs c.oriented-turned.result ≤ 2 ^ 19 =
    oriented_small c.args.up c.args.u c.oriented-turned.result v-is c.requires.1 in
    let at : Step c.args.w c.gain-step.result c.power-top.result =
    let s = c in
    let g = c.gain-step in
    let o : c.args.resolution + 2 ≤ 21 = omega (arith, c.requires.3) in
    step_fits c.args.w g.result c.power-top.result c.ranges.w (ok w64 g.result g.type_inv)
    (ok w64 c.power-top.result c.power-top.type_inv)
    (rw g_is (gain_small c.args.rho c.oriented-turned.result v-small c.requires.2))
    (power_small (c.args.resolution + 2) 21 c.power-top.result o c.power-top.ensures) in
    let r-is : let a = c.args in c.clip.result ≡ weight_step a.resolution a.rho a.up a.u a.w =
    let f = at in
    let a = c.args in
    let g = c.gain-step.result in
    let p = c.power-top.result in
    let e : c.clip.result ≡ clip (a.w +ℤ g) (pos 0 -ℤ p) (p -ℤ pos 1) =
    simp (to_z-of_z, f.w_32, f.w_64, f.g_64, f.p_64, f.wg, f.np, f.p1) at c.clip.ensures in
    e ∙ ends a.resolution p (a.w +ℤ g) c.power-top.ensures
    ∙ ap (λ (x : ℤ). clip (a.w +ℤ x) (lowest_weight a.resolution) (highest_weight a.resolution))
    (g_is ∙ ap (λ (v : ℤ). gain a.rho v) v-is) in
    let r-fits : SFits w32 c.clip.result =
    let s = c in
    let a = c.args in
    rw r-is (sz_fits (sz_abs _ (step_small a.resolution a.rho a.up a.u a.w c.requires.3)) tt) in
    simp (to_z-of_z, ok w64 c.clip.result c.clip.type_inv) r-fits

pub returns : goal.returns
unfolding weight_step
returns c =
    let v-is : c.oriented-turned.result ≡ oriented c.args.up c.args.u =
    let f = c.ranges.u in simp (to_z-of_z, f, wide f) at c.oriented-turned.ensures in
    let g_is : c.gain-step.result ≡ gain c.args.rho c.oriented-turned.result =
    let o = c.oriented-turned in simp (to_z-of_z, c.ranges.rho, ok w64 o.result o.type_inv) at c.gain-step.ensures in
    let v-small : nat_abs c.oriented-turned.result ≤ 2 ^ 19 =
    oriented_small c.args.up c.args.u c.oriented-turned.result v-is c.requires.1 in
    let at : Step c.args.w c.gain-step.result c.power-top.result =
    let s = c in
    let g = c.gain-step in
    let o : c.args.resolution + 2 ≤ 21 = omega (arith, c.requires.3) in
    step_fits c.args.w g.result c.power-top.result c.ranges.w (ok w64 g.result g.type_inv)
    (ok w64 c.power-top.result c.power-top.type_inv)
    (rw g_is (gain_small c.args.rho c.oriented-turned.result v-small c.requires.2))
    (power_small (c.args.resolution + 2) 21 c.power-top.result o c.power-top.ensures) in
    let r-is : let a = c.args in c.clip.result ≡ weight_step a.resolution a.rho a.up a.u a.w =
    let f = at in
    let a = c.args in
    let g = c.gain-step.result in
    let p = c.power-top.result in
    let e : c.clip.result ≡ clip (a.w +ℤ g) (pos 0 -ℤ p) (p -ℤ pos 1) =
    simp (to_z-of_z, f.w_32, f.w_64, f.g_64, f.p_64, f.wg, f.np, f.p1) at c.clip.ensures in
    e ∙ ends a.resolution p (a.w +ℤ g) c.power-top.ensures
    ∙ ap (λ (x : ℤ). clip (a.w +ℤ x) (lowest_weight a.resolution) (highest_weight a.resolution))
    (g_is ∙ ap (λ (v : ℤ). gain a.rho v) v-is) in
    let r-fits : SFits w32 c.clip.result =
    let s = c in
    let a = c.args in
    rw r-is (sz_fits (sz_abs _ (step_small a.resolution a.rho a.up a.u a.w c.requires.3)) tt) in
    simp (to_z-of_z, ok w64 c.clip.result c.clip.type_inv, r-fits) r-is

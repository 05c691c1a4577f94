-- `predictor_steps::weights::custom_weight` meets its contract: the result is the definition's, whose size is asked for.
use mathlib.Core.Path.{◌≡◌, ap₂}
use Prim.Native.Nat.{ℕ, ◌+◌, ◌-◌, ◌^◌, ◌≤◌}
use native.Mathlib.Omega.{arith}
use lib.Pow.{pow_mono}
use lib.IntN.{ℤ, pos, ◌+ℤ◌, ◌*ℤ◌}
use mir.Syntax.{w32, w64}
use mir.Val.{SFits, to_z}
use mir.Facts.{to_z-of_z, to_z_pos}
use Rattle.integers.proofs.Laws.{ok, sz_abs, sz_fits}
use Rattle.predictor.specs.Weights.{custom_weight}
use Rattle.predictor_steps.proofs.Sizes.{power_small}
use Rattle.predictor_steps.proofs.WeightFits.{Custom, custom_fits}
use Rattle.predictor_steps.proofs.weights.custom_weight.Goals as goal

pub overflow_mul-result : goal.overflow_mul-result
overflow_mul-result c =
    let e-in : c.args.resolution + 3 - c.args.precision ≤ 22 =
    let s = c in omega (arith, c.requires.0) in
    let half_in : c.half_less-half.result ≤ 2 ^ 22 =
    let s = c in
    let m : 2 ^ (c.args.resolution + 3 - c.args.precision) ≤ 2 ^ 22 = pow_mono e-in in
    let e = c.half_less-half.ensures in
    omega arith in
    let at : Custom c.power-step.result c.args.value c.half_less-half.result =
    let s = c in
    custom_fits c.power-step.result c.args.value c.half_less-half.result c.ranges.value
    (ok w64 c.power-step.result c.power-step.type_inv)
    (power_small (c.args.resolution + 3 - c.args.precision) 22 c.power-step.result e-in c.power-step.ensures)
    half_in in
    let f = at in simp (to_z-of_z, f.l_32, f.l_64, f.p_64) f.pl

pub overflow_add-result : goal.overflow_add-result
overflow_add-result c =
    let e-in : c.args.resolution + 3 - c.args.precision ≤ 22 =
    let s = c in omega (arith, c.requires.0) in
    let half_in : c.half_less-half.result ≤ 2 ^ 22 =
    let s = c in
    let m : 2 ^ (c.args.resolution + 3 - c.args.precision) ≤ 2 ^ 22 = pow_mono e-in in
    let e = c.half_less-half.ensures in
    omega arith in
    let h-pos : to_z w64 c.half_less-half.result ≡ pos c.half_less-half.result =
    to_z_pos w64 (omega (arith, half_in)) in
    let at : Custom c.power-step.result c.args.value c.half_less-half.result =
    let s = c in
    custom_fits c.power-step.result c.args.value c.half_less-half.result c.ranges.value
    (ok w64 c.power-step.result c.power-step.type_inv)
    (power_small (c.args.resolution + 3 - c.args.precision) 22 c.power-step.result e-in c.power-step.ensures)
    half_in in
    let f = at in rw h-pos (simp (to_z-of_z, f.l_32, f.l_64, f.p_64, f.pl) f.plh)

pub overflow_cast-result-2 : goal.overflow_cast-result-2
unfolding custom_weight
overflow_cast-result-2 c =
    let e-in : c.args.resolution + 3 - c.args.precision ≤ 22 =
    let s = c in omega (arith, c.requires.0) in
    let half_in : c.half_less-half.result ≤ 2 ^ 22 =
    let s = c in
    let m : 2 ^ (c.args.resolution + 3 - c.args.precision) ≤ 2 ^ 22 = pow_mono e-in in
    let e = c.half_less-half.ensures in
    omega arith in
    let h-pos : to_z w64 c.half_less-half.result ≡ pos c.half_less-half.result =
    to_z_pos w64 (omega (arith, half_in)) in
    let at : Custom c.power-step.result c.args.value c.half_less-half.result =
    let s = c in
    custom_fits c.power-step.result c.args.value c.half_less-half.result c.ranges.value
    (ok w64 c.power-step.result c.power-step.type_inv)
    (power_small (c.args.resolution + 3 - c.args.precision) 22 c.power-step.result e-in c.power-step.ensures)
    half_in in
    let r-is : c.power-step.result *ℤ c.args.value +ℤ pos c.half_less-half.result ≡ custom_weight
    c.args.resolution c.args.precision c.args.value =
    ap₂ (λ (p : ℤ) (h : ℕ). p *ℤ c.args.value +ℤ pos h) c.power-step.ensures c.half_less-half.ensures in
    let r-fits : SFits w32 (c.power-step.result *ℤ c.args.value +ℤ pos c.half_less-half.result) =
    rw r-is (sz_fits (sz_abs _ c.requires.2) tt) in
    let f = at in rw h-pos (simp (to_z-of_z, f.l_32, f.l_64, f.p_64, f.pl, f.plh) r-fits)

pub returns : goal.returns
unfolding custom_weight
returns c =
    let e-in : c.args.resolution + 3 - c.args.precision ≤ 22 =
    let s = c in omega (arith, c.requires.0) in
    let half_in : c.half_less-half.result ≤ 2 ^ 22 =
    let s = c in
    let m : 2 ^ (c.args.resolution + 3 - c.args.precision) ≤ 2 ^ 22 = pow_mono e-in in
    let e = c.half_less-half.ensures in
    omega arith in
    let h-pos : to_z w64 c.half_less-half.result ≡ pos c.half_less-half.result =
    to_z_pos w64 (omega (arith, half_in)) in
    let at : Custom c.power-step.result c.args.value c.half_less-half.result =
    let s = c in
    custom_fits c.power-step.result c.args.value c.half_less-half.result c.ranges.value
    (ok w64 c.power-step.result c.power-step.type_inv)
    (power_small (c.args.resolution + 3 - c.args.precision) 22 c.power-step.result e-in c.power-step.ensures)
    half_in in
    let r-is : c.power-step.result *ℤ c.args.value +ℤ pos c.half_less-half.result ≡ custom_weight
    c.args.resolution c.args.precision c.args.value =
    ap₂ (λ (p : ℤ) (h : ℕ). p *ℤ c.args.value +ℤ pos h) c.power-step.ensures c.half_less-half.ensures in
    let r-fits : SFits w32 (c.power-step.result *ℤ c.args.value +ℤ pos c.half_less-half.result) =
    rw r-is (sz_fits (sz_abs _ c.requires.2) tt) in
    let f = at in rw h-pos (simp (to_z-of_z, f.l_32, f.l_64, f.p_64, f.pl, f.plh, r-fits) r-is)

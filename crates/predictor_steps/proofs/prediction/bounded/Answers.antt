-- `predictor_steps::prediction::bounded` meets its contract: the shifted value leaves room for the middle, and the clip is the definition's.
use Rattle.std.proofs.Common.{◌≡◌, ◌∙◌, ap, ℕ, ◌+◌, ◌^◌, ℤ, pos, ◌+ℤ◌, ◌*ℤ◌, rules, SFits, w32, w64, to_z-of_z}
use Rattle.integers.specs.Integer.{floor_div, clip}
use Rattle.integers.proofs.Laws.{ok}
use Rattle.predictor_steps.proofs.PredictionFits.{Bounded, bounded_fits}
use Rattle.predictor_steps.proofs.Sizes.{floor_small}
use Rattle.predictor_steps.proofs.prediction.bounded.Goals as goal

-- a shifted value among the numbers of the range
shifted_fits : {value q low middle high : ℤ} (resolution : ℕ) → SFits w64 value → SFits w64 q → q ≡ floor_div value (2 ^ (resolution + 1))
    → SFits w32 low → SFits w32 middle → SFits w32 high → Bounded q low middle high
shifted_fits {value} {q} {low} {middle} {high} resolution fv fq e fl fm fh =
    bounded_fits q low middle high fq fl fm fh (rw e (floor_small value resolution fv))

pub overflow_add-scaled : goal.overflow_add-scaled
overflow_add-scaled c =
    let v = c.ranges.value in
    let r = c.args.range in
    let l : SFits w32 r.low = search rules in
    let m : SFits w32 r.middle = search rules in
    let h : SFits w32 r.high = search rules in
    let fq = ok w64 c.floor_shift-scaled.result c.floor_shift-scaled.type_inv in
    let f = shifted_fits c.args.resolution v fq (simp (to_z-of_z, v) at c.floor_shift-scaled.ensures) l m h in
    simp (to_z-of_z, f.mid32, f.mid64, f.m2, f.q64) f.qm

pub overflow_add-scaled-2 : goal.overflow_add-scaled-2
overflow_add-scaled-2 c =
    let v = c.ranges.value in
    let r = c.args.range in
    let l : SFits w32 r.low = search rules in
    let m : SFits w32 r.middle = search rules in
    let h : SFits w32 r.high = search rules in
    let fq = ok w64 c.floor_shift-scaled.result c.floor_shift-scaled.type_inv in
    let f = shifted_fits c.args.resolution v fq (simp (to_z-of_z, v) at c.floor_shift-scaled.ensures) l m h in
    simp (to_z-of_z, f.mid32, f.mid64, f.m2, f.q64, f.qm) f.qm1

pub returns : goal.returns
returns c =
    let v = c.ranges.value in
    let r = c.args.range in
    let l : SFits w32 r.low = search rules in
    let m : SFits w32 r.middle = search rules in
    let h : SFits w32 r.high = search rules in
    let fq = ok w64 c.floor_shift-scaled.result c.floor_shift-scaled.type_inv in
    let q-is = simp (to_z-of_z, v) at c.floor_shift-scaled.ensures in
    let f = shifted_fits c.args.resolution v fq q-is l m h in
    let e = simp (to_z-of_z, f.mid32, f.mid64, f.m2, f.q64, f.qm, f.qm1, f.low32, f.low64, f.l2, f.high32, f.high64, f.h2, f.h21) at
    c.clip.ensures in
    to_z-of_z (ok w64 c.clip.result c.clip.type_inv) ∙ e
    ∙ ap (λ (q : ℤ). clip (q +ℤ pos 2 *ℤ r.middle +ℤ pos 1) (pos 2 *ℤ r.low) (pos 2 *ℤ r.high +ℤ pos 1)) q-is

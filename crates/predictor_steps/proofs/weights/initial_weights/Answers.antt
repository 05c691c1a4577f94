-- `predictor_steps::weights::initial_weights` meets its contract: the tables' weights, or eighths behind the zeros of the directional components.
use mathlib.Core.Path.{◌≡◌, sym, ap}
use mathlib.Core.List.{[], ◌∷◌}
use Prim.Native.Nat.{◌^◌, ◌≤◌}
use native.Mathlib.Omega.{arith}
use lib.Pow.{pow_mono}
use lib.ListN.{length, length-append}
use lib.Seq.{length-take-le}
use lib.IntN.{pos}
use Rattle.predictor_steps.proofs.Beginnings.{zero_eighths, resolution_most, custom_asks, custom_are, full_long, reduced_begin, full_begin}
use Rattle.predictor_steps.proofs.weights.initial_weights.Goals as goal

pub custom_weights-requires : goal.custom_weights-requires
custom_weights-requires c = custom_asks c.requires c.if-custom.true

pub returns-then-custom : goal.returns-then-custom
returns-then-custom c =
    let s = c in
    custom_are c.requires c.custom_weights.new.ws c.if-custom.true c.custom_weights.ensures

pub power_of-requires : goal.power_of-requires
power_of-requires c = let h = resolution_most c.requires in omega arith

pub overflow_mul-first : goal.overflow_mul-first
overflow_mul-first c =
    let first_small : c.power_of.result ≤ 2 ^ 19 =
    let m : 2 ^ c.args.s.predictor.resolution ≤ 2 ^ 19 = pow_mono (resolution_most c.requires) in
    let e = c.power_of.ensures in omega arith in
    let h = first_small in omega arith

pub put_eighths-requires : goal.put_eighths-requires
put_eighths-requires c =
    let first_small : c.power_of.result ≤ 2 ^ 19 =
    let m : 2 ^ c.args.s.predictor.resolution ≤ 2 ^ 19 = pow_mono (resolution_most c.requires) in
    let e = c.power_of.ensures in omega arith in
    let h = first_small in omega arith

pub returns-then-reduced : goal.returns-then-reduced
returns-then-reduced c =
    let s = c in
    let p = c.power_of in
    reduced_begin c.requires p.result c.if-custom.false p.ensures c.put_eighths.new.ws
    c.if-reduced.true c.put_eighths.ensures

pub slice_bounds-put_eighths-end : goal.slice_bounds-put_eighths-end
slice_bounds-put_eighths-end c = let s = c in full_long c.requires c.if-reduced.false

pub slice_bounds-put_eighths-end-2 : goal.slice_bounds-put_eighths-end-2
slice_bounds-put_eighths-end-2 c =
    let s = c in sym (length-take-le 3 c.args.ws.now (full_long c.requires c.if-reduced.false))

pub slice_bounds-put_eighths-count : goal.slice_bounds-put_eighths-count
slice_bounds-put_eighths-count c =
    let zeros : c.put_eighths-2.new.ws ≡ pos 0 ∷ pos 0 ∷ pos 0 ∷ [] =
    let s = c in
    zero_eighths c.put_eighths-2.new.ws _ (length-take-le 3 c.args.ws.now (full_long c.requires c.if-reduced.false))
    c.put_eighths-2.ensures in
    rw (length-append c.put_eighths-2.new.ws _, ap length zeros) (omega arith)

pub slice_bounds-put_eighths-start : goal.slice_bounds-put_eighths-start
slice_bounds-put_eighths-start c =
    let zeros : c.put_eighths-2.new.ws ≡ pos 0 ∷ pos 0 ∷ pos 0 ∷ [] =
    let s = c in
    zero_eighths c.put_eighths-2.new.ws _ (length-take-le 3 c.args.ws.now (full_long c.requires c.if-reduced.false))
    c.put_eighths-2.ensures in
    rw (length-append c.put_eighths-2.new.ws _, ap length zeros) (omega arith)

pub put_eighths-requires-3 : goal.put_eighths-requires-3
put_eighths-requires-3 c =
    let first_small : c.power_of.result ≤ 2 ^ 19 =
    let m : 2 ^ c.args.s.predictor.resolution ≤ 2 ^ 19 = pow_mono (resolution_most c.requires) in
    let e = c.power_of.ensures in omega arith in
    let h = first_small in omega arith

pub returns : goal.returns
returns c =
    let zeros : c.put_eighths-2.new.ws ≡ pos 0 ∷ pos 0 ∷ pos 0 ∷ [] =
    let s = c in
    zero_eighths c.put_eighths-2.new.ws _ (length-take-le 3 c.args.ws.now (full_long c.requires c.if-reduced.false))
    c.put_eighths-2.ensures in
    let s = c in
    let p = c.power_of in
    full_begin c.requires p.result c.if-custom.false p.ensures
    c.put_eighths-2.new.ws c.put_eighths-3.new.ws
    c.if-reduced.false zeros
    c.put_eighths-3.ensures

-- The parts of us that are lent hold the differences, and joined they are the components.
use Rattle.std.proofs.Common.{◌≡◌, ◌∙◌, sym, subst, length, take, arith, rules, w64, to_z, of_z, to_z-of_z}
use Rattle.std.proofs.lemmas.List.{length-take-le}
use Rattle.integers.specs.Laws.{ok}
use Rattle.predictor.specs.LocalSum.{Neighbours}
use Rattle.predictor.specs.SizeLaws.{Around}
use Rattle.predictor.specs.Inputs.{samples_small, base_small}
use Rattle.predictor_sums.specs.Asks.{directions_of}
use Rattle.predictor_sums.specs.Fetch.{neighbours_of, position_of}
use Rattle.predictor_sums.proofs.Components.{middle_long, window, narrow, n_most, some_in, some_long, below, reduced_are, full_are}
use Rattle.predictor_sums.proofs.Fetches.{fetching, sum_is, directional_is, fetched_small, sum_small}
use Rattle.predictor_sums.proofs.sums.differences.Goals as goal

pub overflow_mul-base : goal.overflow_mul-base
overflow_mul-base c =
    let d = c.requires in let h = base_small d.given d.band_in d.place_in in omega arith

pub overflow_add-base : goal.overflow_add-base
overflow_add-base c =
    let w = window c.requires in let u = c.saturating_sub.ensures in omega arith

pub overflow_add-base-2 : goal.overflow_add-base-2
overflow_add-base-2 c =
    let w = window c.requires in omega arith

pub fetch-around-requires : goal.fetch-around-requires
fetch-around-requires c =
    fetching (window c.requires) c.position_at-position.ensures c.saturating_sub.ensures

pub slice_bounds-centrals-end : goal.slice_bounds-centrals-end
slice_bounds-centrals-end c = some_in c.requires c.min-behind.result c.min-behind.ensures

pub slice_bounds-centrals-end-then-reduced : goal.slice_bounds-centrals-end-then-reduced
slice_bounds-centrals-end-then-reduced c = sym (some_long c.requires c.min-behind.result c.min-behind.ensures)

pub centrals-requires : goal.centrals-requires
centrals-requires c =
    let n = c.min-behind in
    below c.requires n.result n.ensures _ (some_long c.requires n.result n.ensures) c.position_at-position.ensures

pub returns-then-reduced : goal.returns-then-reduced
returns-then-reduced c =
    let found = sum_is (window c.requires) c.position_at-position.ensures c.saturating_sub.ensures c.fetch-around.ensures c.args.s.predictor.column (narrow c.requires) in
    let r = c.local_sum-sum in
    let n = c.min-behind in
    let e = to_z-of_z (ok w64 r.result r.type_inv) ∙ c.local_sum-sum.ensures ∙ found in
    let behind = c.centrals in
    let reduced = c.if-reduced.true in
    reduced_are c.requires n.result n.ensures (to_z w64 (of_z w64 r.result)) e behind.new.us reduced behind.ensures

pub directional-d-requires : goal.directional-d-requires
directional-d-requires c =
    let r = c.local_sum-sum in
    let p = position_of c.position_at-position.result in
    let f = c.fetch-around in
    let small = samples_small c.requires.given in
    let around = subst (λ (n : Neighbours). Around 65535 n) (sym f.ensures) (fetched_small _ _ p small small) in
    let sum = sum_small c.args.s.predictor.column p (neighbours_of f.result) around in
    (around, rw (to_z-of_z (ok w64 r.result r.type_inv), r.ensures) sum)

pub slice_bounds-copy_from_slice-end-2 : goal.slice_bounds-copy_from_slice-end-2
slice_bounds-copy_from_slice-end-2 c =
    let three-in : length (take 3 c.args.us.now) ≡ 3 =
    length-take-le 3 c.args.us.now (omega (arith, c.requires.long)) in
    sym three-in

pub copy_from_slice-requires : goal.copy_from_slice-requires
copy_from_slice-requires c =
    let three-in : length (take 3 c.args.us.now) ≡ 3 =
    length-take-le 3 c.args.us.now (omega (arith, c.requires.long)) in
    three-in

pub slice_bounds-centrals-end-2 : goal.slice_bounds-centrals-end-2
slice_bounds-centrals-end-2 c =
    let d = c.requires in
    let n = c.min-behind in
    let n-in = n_most d n.result n.ensures in
    let l = d.long in
    search rules

pub centrals-requires-2 : goal.centrals-requires-2
centrals-requires-2 c =
    let three-in : length (take 3 c.args.us.now) ≡ 3 =
    length-take-le 3 c.args.us.now (omega (arith, c.requires.long)) in
    let n = c.min-behind in
    let three = c.copy_from_slice in
    let l = three.ensures.len ∙ three-in in
    let long = middle_long n.result c.args.us.now three.new.self l c.requires.long (n_most c.requires n.result n.ensures) in
    below c.requires n.result n.ensures _ long c.position_at-position.ensures

pub returns : goal.returns
returns c =
    let found = sum_is (window c.requires) c.position_at-position.ensures c.saturating_sub.ensures c.fetch-around.ensures c.args.s.predictor.column (narrow c.requires) in
    let three-in : length (take 3 c.args.us.now) ≡ 3 =
    length-take-le 3 c.args.us.now (omega (arith, c.requires.long)) in
    let d = c.requires in
    let n = c.min-behind in
    let r = c.local_sum-sum in
    let sum = to_z w64 (of_z w64 r.result) in
    let e = to_z-of_z (ok w64 r.result r.type_inv) ∙ c.local_sum-sum.ensures ∙ found in
    let v = c.directional-d in
    let three = c.copy_from_slice in
    let put : three.new.self ≡ directions_of v.result = search rules in
    let directed = directional_is (window d) c.position_at-position.ensures c.saturating_sub.ensures c.fetch-around.ensures sum in
    full_are d n.result n.ensures sum e three.new.self c.centrals-2.new.us c.if-reduced.false (three.ensures.len ∙ three-in) (put ∙ v.ensures ∙ directed) c.centrals-2.ensures

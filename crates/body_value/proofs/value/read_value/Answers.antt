-- The halves one after the other, each with its own slots, and the sample stored.
use Rattle.std.proofs.Common.{◌≡◌, refl, arith, take, drop, rules, of_calls, w32, to_z-of_z}
use Rattle.std.proofs.lemmas.Result.{err_from_is_err_and}
use Rattle.integers.specs.Laws.{ok}
use Rattle.bitstream.specs.Stream.{unpack}
use Rattle.bitstream.specs.Reader.{unread}
use Rattle.coder.specs.Encoding.{decode}
use Rattle.body_value.specs.Coder.{statistics_in, Found}
use Rattle.body_value.specs.Value.{refused_at}
use Rattle.body_value.proofs.Missing.{ok_before, err_before}
use Rattle.body_value.proofs.Predicts.{index_in, index_small}
use Rattle.body_value.proofs.Values.{predicting, index_is, sampling, took, stops}
use Rattle.body_value.proofs.value.read_value.Goals as goal

pub returns-in_err-delta : goal.returns-in_err-delta
returns-in_err-delta c =
    let p = err_from_is_err_and c.from_residual.result c.from_residual.ensures.1 in
    let t = err_before c.decoded-read.result c.map_err.result _ _ c.map_err.ensures.cases c.in_err-delta.was in
    let e : c.in_err-delta.field-0.0 ≡ refused_at c.args.c.rank t.why = search (rules, of_calls) in
    let missed : let a = c.args in decode a.p.settings a.place.t (statistics_in (take 14 (drop 18 a.slots.now))) (drop a.c.at (unpack a.file.now)) ≡ unread t.why =
    rw t.was at c.decoded-read.ensures in
    rw (p.1, p.2, e) (stops c.requires (unpack c.args.file.now) t.why missed)

pub sample_here-sample-requires : goal.sample_here-sample-requires
sample_here-sample-requires c =
    let found-is : let a = c.args in Found a.p (take 14 (drop 18 a.slots.now)) (unpack a.file.now) a.c.at a.place.t c.decoded-read.new.slots c.in_ok-delta.delta c.in_ok-delta.next =
    rw (ok_before c.decoded-read.result c.map_err.result _ _ c.map_err.ensures.cases c.in_ok-delta.was) at c.decoded-read.ensures in
    sampling c.requires found-is

pub overflow_mul-sample : goal.overflow_mul-sample
overflow_mul-sample c = let h = index_small (predicting c.requires) in omega arith

pub overflow_add-sample : goal.overflow_add-sample
overflow_add-sample c = let h = index_small (predicting c.requires) in omega arith

pub offset_bounds-image-place : goal.offset_bounds-image-place
offset_bounds-image-place c = let h = index_small (predicting c.requires) in omega (arith, index_in (predicting c.requires))

pub bounds-image-place : goal.bounds-image-place
bounds-image-place c = index_in (predicting c.requires)

pub returns : goal.returns
returns c =
    let found-is : let a = c.args in Found a.p (take 14 (drop 18 a.slots.now)) (unpack a.file.now) a.c.at a.place.t c.decoded-read.new.slots c.in_ok-delta.delta c.in_ok-delta.next =
    rw (ok_before c.decoded-read.result c.map_err.result _ _ c.map_err.ensures.cases c.in_ok-delta.was) at c.decoded-read.ensures in
    rw (to_z-of_z (ok w32 c.sample_here-sample.result c.sample_here-sample.type_inv)) (took c.requires found-is c.sample_here-sample.ensures _ (index_is c.requires) _ refl)

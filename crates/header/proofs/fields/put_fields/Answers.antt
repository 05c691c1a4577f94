-- Each turn puts the field behind those put before.
use Rattle.std.proofs.Common.{length, get_or, ap₂, arith, rules}
use Rattle.std.proofs.lemmas.List.{length_push}
use Rattle.std.proofs.lemmas.Slice.Zip.{zip_turn, zip_end}
use Rattle.bitstream.specs.Stream.{bits}
use Rattle.bitstream.proofs.Writes.{put_as}
use Rattle.bitstream.proofs.Laws.{length_bits}
use Rattle.header.proofs.Joins.{joins_begin, joins_more, joins_all, fields_join, reduced, reduced_lt}
use Rattle.header.proofs.Numbers.{Width, fitting_at}
use Rattle.header.proofs.fields.put_fields.Goals as goal

pub loop-width-init : goal.loop-width-init
loop-width-init c = joins_begin _ _ _ _ _

pub power_of-requires : goal.power_of-requires
power_of-requires c =
    let turn = zip_turn c.args.widths.now c.args.values.now c.loop-width.yielded c.into_iter-width-iterator.result c.loop-width.width-iterator c.next.new.self _ (search rules) (search rules) c.loop-width.yielded_by _ c.in-Some.is c.next.ensures.steps in
    let width : Width (get_or c.args.widths.now (length c.loop-width.yielded) 0) = fitting_at _ _ c.requires.0 turn.0 in
    omega (arith, width.most, turn.2 0)

pub put-tail-requires : goal.put-tail-requires
put-tail-requires c =
    let turn = zip_turn c.args.widths.now c.args.values.now c.loop-width.yielded c.into_iter-width-iterator.result c.loop-width.width-iterator c.next.new.self _ (search rules) (search rules) c.loop-width.yielded_by _ c.in-Some.is c.next.ensures.steps in
    let width : Width (get_or c.args.widths.now (length c.loop-width.yielded) 0) = fitting_at _ _ c.requires.0 turn.0 in
    let j = c.loop-width.invariant in
    (omega (arith, width.most, turn.2 0), reduced_lt _ _ _ c.power_of.ensures, omega (arith, j.size, j.most))

pub loop-width-preserved : goal.loop-width-preserved
loop-width-preserved c =
    let turn = zip_turn c.args.widths.now c.args.values.now c.loop-width.yielded c.into_iter-width-iterator.result c.loop-width.width-iterator c.next.new.self _ (search rules) (search rules) c.loop-width.yielded_by _ c.in-Some.is c.next.ensures.steps in
    let width : Width (get_or c.args.widths.now (length c.loop-width.yielded) 0) = fitting_at _ _ c.requires.0 turn.0 in
    let l = c.loop-width in
    let put = put_as (ap₂ bits (turn.2 0) (turn.3 0)) (reduced _ _ _ c.power_of.ensures c.put-tail.ensures) in
    rw length_push (joins_more _ _ _ _ _ (length l.yielded) l.tail _ l.out _ l.invariant turn.0 (rw length_bits width.most) c.put-tail.auto.out put)

pub returns : goal.returns
returns c =
    let a = c.args in
    let end = zip_end a.widths.now a.values.now c.loop-width.yielded c.into_iter-width-iterator.result c.loop-width.width-iterator c.next.new.self _ (search rules) (search rules) c.loop-width.yielded_by c.in-None.is c.next.ensures.steps in
    put_as (fields_join a.widths.now a.values.now c.requires.1) (joins_all _ _ _ _ _ _ _ _ c.loop-width.invariant (omega (arith, end, c.requires.1)))

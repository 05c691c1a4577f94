-- The header's tables and a zero image go in, the body is read over them, and its end decides.
use mathlib.Core.Path.{◌≡◌, refl, sym, ◌∙◌, ap}
use Prim.Native.Nat.{ℕ}
use native.Mathlib.Omega.{arith}
use lib.IntN.{pos}
use lib.ListN.{length, replicate}
use Rattle.std.specs.Prelude.{is_err}
use Rattle.cube.proofs.Openings.{part_long, begun_legal, begun_limited, tables_long, front_long, begun_starts, begun_outcome, image_long, opens_done, opens_refused}
use borrow.Author.Rules.{rules}
use Rattle.cube.proofs.open.open_body.Goals as goal

pub slice_bounds-clear-end-2 : goal.slice_bounds-clear-end-2
slice_bounds-clear-end-2 c =
    let a = c.args in
    let L = c.requires in
    let n = c.sample_count-count in
    let e = n.ensures in
    let h = L.room in
    part_long n.result a.image.now (omega arith)

pub plan_of-p-requires : goal.plan_of-p-requires
plan_of-p-requires c =
    let a = c.args in
    let L = c.requires in
    begun_legal a.file.now a.scratch.now a.tables.now a.image.now a.s a.at L.begins

pub slice_bounds-read_body-end-2 : goal.slice_bounds-read_body-end-2
slice_bounds-read_body-end-2 c =
    let a = c.args in
    let L = c.requires in
    let n = c.sample_count-count in
    let t = c.store_tables in
    let z = c.clear in
    tables_long a.file.now a.scratch.now a.tables.now a.image.now a.s a.at L t.new.tables z.new.area n.result (t.ensures.stored L.begins.header _ L.begins.read) n.ensures z.ensures

pub slice_bounds-read_body-end-4 : goal.slice_bounds-read_body-end-4
slice_bounds-read_body-end-4 c =
    let a = c.args in
    let L = c.requires in
    let n = c.sample_count-count in
    let t = c.store_tables in
    let z = c.clear in
    front_long a.file.now a.scratch.now a.tables.now a.image.now a.s a.at L t.new.tables z.new.area n.result (t.ensures.stored L.begins.header _ L.begins.read) n.ensures z.ensures

pub read_body-body-requires : goal.read_body-body-requires
read_body-body-requires c =
    let a = c.args in
    let L = c.requires in
    let n = c.sample_count-count in
    let t = c.store_tables in
    let z = c.clear in
    begun_starts a.file.now a.scratch.now a.tables.now a.image.now a.s a.at L t.new.tables z.new.area n.result (t.ensures.stored L.begins.header _ L.begins.read) n.ensures z.ensures _ _ c.plan_of-p.ensures.settings refl

pub answer_of-answer-requires : goal.answer_of-answer-requires
answer_of-answer-requires c =
    let a = c.args in
    let L = c.requires in
    let n = c.sample_count-count in
    let t = c.store_tables in
    let z = c.clear in
    let b = c.read_body-body in
    let o = begun_outcome a.file.now a.scratch.now a.tables.now a.image.now a.s a.at L t.new.tables z.new.area n.result (t.ensures.stored L.begins.header _ L.begins.read) n.ensures z.ensures _ c.plan_of-p.ensures.settings _ b.result b.ensures in
    (begun_legal a.file.now a.scratch.now a.tables.now a.image.now a.s a.at L.begins, begun_limited a.file.now a.scratch.now a.tables.now a.image.now a.s a.at L.begins, o.reached)

pub returns-then-is_err : goal.returns-then-is_err
returns-then-is_err c =
    let a = c.args in
    let L = c.requires in
    let n = c.sample_count-count in
    let t = c.store_tables in
    let z = c.clear in
    let b = c.read_body-body in
    let r = c.answer_of-answer in
    let o = begun_outcome a.file.now a.scratch.now a.tables.now a.image.now a.s a.at L t.new.tables z.new.area n.result (t.ensures.stored L.begins.header _ L.begins.read) n.ensures z.ensures _ c.plan_of-p.ensures.settings _ b.result b.ensures in
    let l : length t.new.tables ≡ length a.tables.now = search rules in
    opens_refused a.file.now a.scratch.now a.tables.now a.image.now a.s a.at L _ _ _ _ b.result _ o r.ensures (sym (ap is_err r.ensures) ∙ sym c.is_err.ensures.value ∙ c.if-is_err.true) (c.clear-then-is_err.ensures ∙ ap (λ (j : ℕ). replicate j (pos 0)) l)
    (c.clear-then-is_err-2.ensures ∙ ap (λ (j : ℕ). replicate j (pos 0)) (image_long a.file.now a.scratch.now a.tables.now a.image.now a.s a.at L t.new.tables z.new.area n.result (t.ensures.stored L.begins.header _ L.begins.read) n.ensures z.ensures b.new.image b.auto.image))

pub returns-else-is_err : goal.returns-else-is_err
returns-else-is_err c =
    let a = c.args in
    let L = c.requires in
    let n = c.sample_count-count in
    let t = c.store_tables in
    let z = c.clear in
    let b = c.read_body-body in
    let r = c.answer_of-answer in
    let o = begun_outcome a.file.now a.scratch.now a.tables.now a.image.now a.s a.at L t.new.tables z.new.area n.result (t.ensures.stored L.begins.header _ L.begins.read) n.ensures z.ensures _ c.plan_of-p.ensures.settings _ b.result b.ensures in
    opens_done a.file.now a.scratch.now a.tables.now a.image.now a.s a.at L t.new.tables z.new.area n.result (t.ensures.stored L.begins.header _ L.begins.read) n.ensures z.ensures _ b.result _ o (b.auto.image ∙ sym (front_long a.file.now a.scratch.now a.tables.now a.image.now a.s a.at L t.new.tables z.new.area n.result (t.ensures.stored L.begins.header _ L.begins.read) n.ensures z.ensures)) r.ensures (sym (ap is_err r.ensures) ∙ sym c.is_err.ensures.value ∙ c.if-is_err.false)

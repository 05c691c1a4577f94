-- Header, body and fill go one behind the other, each where the one before it ends, and none comes near the end of a word.
use mathlib.Core.Path.{refl}
use native.Mathlib.Omega.{arith}
use Rattle.bitstream.proofs.Writes.{filled_count}
use Rattle.settings.specs.LegalLaws.{legal_settings}
use Rattle.cube.proofs.Files.{file_written, fine_starts, body_of, headed_small, bodied_small, filled_small}
use Rattle.cube.proofs.pack.write_file.Goals as goal

pub write_body-bodied-requires : goal.write_body-bodied-requires
write_body-bodied-requires c =
    let a = c.args in
    let f = c.requires in
    let h = headed_small a.s a.tables.now a.samples.now _ f (c.start-begun.ensures.1 _) c.write_header-headed.ensures in
    fine_starts a.s _ a.tables.now a.samples.now a.scratch.now a.scratch.now _ f c.plan_of-p.ensures.settings refl
    (omega arith)

pub fill-filled-requires : goal.fill-filled-requires
fill-filled-requires c =
    let a = c.args in
    let f = c.requires in
    let l = (legal_settings a.s f.legal).image in
    let w = l.word_least in
    let m = l.word_most in
    let h = headed_small a.s a.tables.now a.samples.now _ f (c.start-begun.ensures.1 _) c.write_header-headed.ensures in
    let b = bodied_small a.s a.tables.now a.samples.now _ f h (body_of a.s _ a.tables.now a.samples.now c.plan_of-p.ensures.settings c.write_body-bodied.ensures) in
    (omega arith, omega arith, omega arith)

pub finish-requires : goal.finish-requires
finish-requires c =
    let a = c.args in
    let f = c.requires in
    let l = (legal_settings a.s f.legal).image in
    let h = headed_small a.s a.tables.now a.samples.now _ f (c.start-begun.ensures.1 _) c.write_header-headed.ensures in
    let b = bodied_small a.s a.tables.now a.samples.now _ f h (body_of a.s _ a.tables.now a.samples.now c.plan_of-p.ensures.settings c.write_body-bodied.ensures) in
    let e = filled_small a.s.image.word l.word_least l.word_most b c.fill-filled.ensures in
    (filled_count a.s.image.word l.word_least c.fill-filled.ensures, omega arith)

pub returns : goal.returns
returns c =
    let a = c.args in
    file_written a.s a.tables.now a.samples.now _ c.start-begun.ensures.1 c.write_header-headed.ensures (body_of a.s _ a.tables.now a.samples.now c.plan_of-p.ensures.settings c.write_body-bodied.ensures)
    c.fill-filled.ensures c.finish.ensures (λ i. omega (arith, c.type_inv.out i))

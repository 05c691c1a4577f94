-- The length is that of the file, which is written nowhere: no byte is lent.
use Rattle.std.specs.Prelude.{Ok}
use Rattle.std.proofs.Common.{length, sym, ap, ◌∙◌}
use Rattle.std.proofs.lemmas.Result.{err_from_is_err_and}
use Rattle.settings.specs.CheckLaws.{fine}
use Rattle.cube.specs.PackLaws.{length_fine}
use Rattle.cube.proofs.Packings.{lengths_as, length_refused}
use Rattle.cube.proofs.pack.length.Goals as goal

pub returns-in_err-check_pack : goal.returns-in_err-check_pack
returns-in_err-check_pack c =
    let a = c.args in
    let p = err_from_is_err_and c.from_residual.result c.from_residual.ensures.1 in
    rw (p.1, p.2) (lengths_as a.s a.tables.now a.samples.now a.scratch.now
    (length_refused a.s a.tables.now a.samples.now (length a.scratch.now) _ (sym c.check_pack.ensures ∙ c.in_err-check_pack.was)))

pub write_file-n-requires : goal.write_file-n-requires
write_file-n-requires c =
    let a = c.args in
    fine a.s a.tables.now a.samples.now (length a.scratch.now) (sym c.check_pack.ensures ∙ c.in_ok-check_pack.was)

pub returns : goal.returns
returns c =
    let a = c.args in
    let f = fine a.s a.tables.now a.samples.now (length a.scratch.now) (sym c.check_pack.ensures ∙ c.in_ok-check_pack.was) in
    lengths_as a.s a.tables.now a.samples.now a.scratch.now (ap Ok c.write_file-n.ensures.size ∙ sym (length_fine a.s a.tables.now a.samples.now (length a.scratch.now) f))

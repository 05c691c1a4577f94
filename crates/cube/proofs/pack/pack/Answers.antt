-- A test that fails is the answer, and nothing is touched; what passes is packed.
use Rattle.std.proofs.Common.{length, sym, ◌∙◌}
use Rattle.std.proofs.lemmas.Result.{err_from_is_err_and}
use Rattle.settings.specs.CheckLaws.{fine}
use Rattle.cube.proofs.Packings.{packs_refused}
use Rattle.cube.proofs.pack.pack.Goals as goal

pub returns-in_err-check_pack : goal.returns-in_err-check_pack
returns-in_err-check_pack c =
    let a = c.args in
    let p = err_from_is_err_and c.from_residual.result c.from_residual.ensures.1 in
    rw (p.1, p.2) (packs_refused a.s a.tables.now a.samples.now a.scratch.now a.out.now _ (sym c.check_pack.ensures ∙ c.in_err-check_pack.was))

pub pack_fine-requires : goal.pack_fine-requires
pack_fine-requires c =
    let a = c.args in
    fine a.s a.tables.now a.samples.now (length a.scratch.now) (sym c.check_pack.ensures ∙ c.in_ok-check_pack.was)

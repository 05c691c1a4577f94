-- The header decides first.
use Rattle.std.proofs.Common.{subst}
use Rattle.std.proofs.lemmas.Result.{err_from_is_err_and}
use Rattle.bitstream.specs.Stream.{unpack}
use Rattle.header_reader.specs.Answers.{HeaderMeans}
use Rattle.cube.proofs.Openings.{opens_no_header}
use Rattle.cube.proofs.open.open.Goals as goal

pub returns-in_err-s : goal.returns-in_err-s
returns-in_err-s c =
    let a = c.args in
    let p = err_from_is_err_and c.from_residual.result c.from_residual.ensures.1 in
    rw (p.1, p.2) (opens_no_header a.file.now a.scratch.now a.tables.now a.image.now _ (subst (HeaderMeans (unpack a.file.now)) c.in_err-s.was c.read_header.ensures))

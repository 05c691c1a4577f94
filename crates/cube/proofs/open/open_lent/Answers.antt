-- The two tests of the areas, in their order, before anything is touched.
use mathlib.Core.Path.{sym, ◌∙◌}
use native.Mathlib.Omega.{arith}
use lib.ListN.{length}
use Rattle.settings.specs.CheckLaws.{roomy}
use Rattle.cube.proofs.Openings.{begun_count, begun_short_image, begun_short_area}
use Rattle.cube.proofs.open.open_lent.Goals as goal

pub sample_count-requires : goal.sample_count-requires
sample_count-requires c =
    let a = c.args in
    begun_count a.file.now a.scratch.now a.tables.now a.image.now a.s a.at c.requires

pub returns-then-image-sample_count : goal.returns-then-image-sample_count
returns-then-image-sample_count c =
    let a = c.args in
    let n = c.sample_count.ensures in
    begun_short_image a.file.now a.scratch.now a.tables.now a.image.now a.s a.at c.requires (omega (arith, c.if-image-sample_count.true))

pub returns-then-areas_short : goal.returns-then-areas_short
returns-then-areas_short c =
    let a = c.args in
    let n = c.sample_count.ensures in
    begun_short_area a.file.now a.scratch.now a.tables.now a.image.now a.s a.at c.requires (omega (arith, c.if-image-sample_count.false)) (sym c.areas_short.ensures ∙ c.if-areas_short.true)

pub open_body-requires : goal.open_body-requires
open_body-requires c =
    let a = c.args in
    let n = c.sample_count.ensures in
    record {
      begins = c.requires;
      room = omega (arith, c.if-image-sample_count.false);
      areas = roomy a.s (length a.scratch.now) (length a.tables.now) (sym c.areas_short.ensures ∙ c.if-areas_short.false);
    }

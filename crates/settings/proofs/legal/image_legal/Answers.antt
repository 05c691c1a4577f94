-- The chain of tests is the definition's, link by link.
use Rattle.settings.specs.Legal.{image_legal}
use Rattle.settings.proofs.Ranges.{tested}
use Rattle.settings.proofs.legal.image_legal.Goals as goal

pub returns : goal.returns
unfolding image_legal
returns c =
    rw (
      tested c.args.i.nx c.new.ensures.start c.new.ensures.end c.new.ensures.exhausted c.contains.ensures.value,
      tested c.args.i.ny c.new-2.ensures.start c.new-2.ensures.end c.new-2.ensures.exhausted c.contains-2.ensures.value,
      tested c.args.i.nz c.new-3.ensures.start c.new-3.ensures.end c.new-3.ensures.exhausted c.contains-3.ensures.value,
      tested c.args.i.depth c.new-4.ensures.start c.new-4.ensures.end c.new-4.ensures.exhausted c.contains-4.ensures.value,
      tested c.args.i.interleave c.new-5.ensures.start c.new-5.ensures.end c.new-5.ensures.exhausted c.contains-5.ensures.value,
      tested c.args.i.word c.new-6.ensures.start c.new-6.ensures.end c.new-6.ensures.exhausted c.contains-6.ensures.value,
    )

-- The chain of tests is the definition's, link by link; sums are formed at 64 bits, where they fit.
use Rattle.settings.specs.Legal.{coder_legal}
use Rattle.settings.proofs.Ranges.{tested}
use Rattle.settings.proofs.legal.coder_legal.Goals as goal

pub returns : goal.returns
unfolding coder_legal
returns c =
    rw (
      tested c.args.c.unary c.new.ensures.start c.new.ensures.end c.new.ensures.exhausted c.contains.ensures.value,
      tested c.args.c.initial c.new-2.ensures.start c.new-2.ensures.end c.new-2.ensures.exhausted c.contains-2.ensures.value,
      tested c.args.c.rescaling c.new-3.ensures.start c.new-3.ensures.end c.new-3.ensures.exhausted c.contains-3.ensures.value,
      c.max-least.ensures,
    )

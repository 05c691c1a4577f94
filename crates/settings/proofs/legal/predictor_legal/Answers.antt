-- The chain of tests is the definition's, link by link; sums are formed at 64 bits, where they fit.
use Rattle.std.proofs.Common.{rules}
use Rattle.settings.specs.Legal.{predictor_legal}
use Rattle.settings.proofs.Ranges.{tested}
use Rattle.settings.proofs.legal.predictor_legal.Goals as goal

pub returns : goal.returns
unfolding predictor_legal
returns c = rw (
  tested c.args.p.resolution c.new.ensures.start c.new.ensures.end c.new.ensures.exhausted c.contains.ensures.value,
  tested c.args.p.register c.new-2.ensures.start c.new-2.ensures.end c.new-2.ensures.exhausted c.contains-2.ensures.value,
  c.max-least.ensures,
  c.interval_legal.ensures,
) (search rules)

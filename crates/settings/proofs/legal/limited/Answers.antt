-- The sizes are tested first where the whole product need not fit, so each answer is the definition's.
use Rattle.std.proofs.Common.{sym, arith}
use Rattle.settings.specs.LegalLaws.{bands_pass, no_bands, area_passes, by_samples}
use Rattle.settings.proofs.legal.limited.Goals as goal

pub returns-then-bands-gt-MOST_BANDS : goal.returns-then-bands-gt-MOST_BANDS
returns-then-bands-gt-MOST_BANDS c = sym (bands_pass c.args.i (omega arith))

pub returns-then-bands-eq0 : goal.returns-then-bands-eq0
returns-then-bands-eq0 c = sym (no_bands c.args.i (omega arith))

pub returns-then-area-gt-MOST_SAMPLES : goal.returns-then-area-gt-MOST_SAMPLES
returns-then-area-gt-MOST_SAMPLES c = sym (area_passes c.args.i (omega arith) (omega arith) (omega arith))

pub returns : goal.returns
returns c = sym (by_samples c.args.i (omega arith))

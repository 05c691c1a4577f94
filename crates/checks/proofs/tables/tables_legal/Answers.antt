-- Every band before the one that the loop has reached is legal, so one that is not decides, and so does the end.
use Rattle.std.proofs.Common.{◌≡◌, sym, ◌∙◌, arith}
use Rattle.settings.specs.Tables.{band_legal, tables_legal}
use Rattle.settings.specs.TableLaws.{every_of, every_more, every_not, every_same}
use Rattle.checks.proofs.tables.tables_legal.Goals as goal

pub loop-z-init : goal.loop-z-init
loop-z-init c = every_of 0 (band_legal c.args.s c.args.tables.now) (λ i h. absurd (omega arith))

pub returns-then-not-band_legal : goal.returns-then-not-band_legal
unfolding tables_legal
returns-then-not-band_legal c =
    sym (every_not c.args.s.image.nz (band_legal c.args.s c.args.tables.now) c.loop-z.z (omega arith) (sym c.band_legal.ensures ∙ c.if-not-band_legal.true))

pub loop-z-preserved : goal.loop-z-preserved
loop-z-preserved c =
    every_more c.loop-z.z (band_legal c.args.s c.args.tables.now) c.loop-z.invariant (sym c.band_legal.ensures ∙ c.if-not-band_legal.false)

pub returns : goal.returns
unfolding tables_legal
returns c =
    let all : c.loop-z.z ≡ c.args.s.image.nz = omega arith in
    sym c.loop-z.invariant ∙ every_same (band_legal c.args.s c.args.tables.now) all

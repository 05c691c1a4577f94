-- Each branch is taken where the definition's test fails, and each test that passed is known to the next.
use mathlib.Core.Path.{◌≡◌, sym, ap, ◌∙◌}
use mathlib.Core.Bool.{true, false}
use Prim.Native.Nat.{ℕ}
use native.Mathlib.Omega.{arith}
use lib.Dec.{eqb}
use lib.ListN.{length}
use borrow.Author.Tests.{lt-ltb, le-ltb}
use Rattle.std.specs.Prelude.{Err}
use Rattle.refusals.specs.declared.Refusal.TheVariants.{SampleOutOfRange}
use Rattle.refusals.specs.Tests.{first_hit}
use Rattle.settings.specs.Legal.{settings_legal, limited, sample_count}
use Rattle.settings.specs.LegalLaws.{legal_settings, count_fits}
use Rattle.settings.specs.Range.{first_out}
use Rattle.settings.specs.Tables.{tables_legal}
use Rattle.settings.specs.Checks.{areas_short, check_pack}
use Rattle.settings.specs.CheckLaws.{roomy}
use Rattle.std.proofs.lemmas.Bool.{ne_eqb}
use Rattle.std.proofs.Common.{eq-eqb, le_refl, rules}
use Rattle.checks.proofs.check.check_pack.Goals as goal

pub returns-then-not-settings_legal : goal.returns-then-not-settings_legal
unfolding check_pack first_hit
returns-then-not-settings_legal c = rw (sym c.settings_legal.ensures ∙ c.if-not-settings_legal.true)

pub sample_count-requires : goal.sample_count-requires
sample_count-requires c =
    let legal : settings_legal c.args.s ≡ true =
    sym c.settings_legal.ensures ∙ c.if-not-settings_legal.false in
    count_fits c.args.s.image (legal_settings c.args.s legal).image

pub returns-then-not-small : goal.returns-then-not-small
unfolding check_pack first_hit
returns-then-not-small c =
    let legal : settings_legal c.args.s ≡ true =
    sym c.settings_legal.ensures ∙ c.if-not-settings_legal.false in
    rw (legal, sym c.limited-small.ensures ∙ c.if-not-small.true)

pub returns-then-not-counted : goal.returns-then-not-counted
unfolding check_pack first_hit
returns-then-not-counted c =
    let legal : settings_legal c.args.s ≡ true =
    sym c.settings_legal.ensures ∙ c.if-not-settings_legal.false in
    let small : limited c.args.s.image ≡ true =
    cc in
    let counts : eqb (length c.args.samples.now) (sample_count c.args.s.image) ≡ eqb (length c.args.samples.now) c.sample_count.result =
    ap (λ (n : ℕ). eqb (length c.args.samples.now) n) (sym c.sample_count.ensures) in
    rw (legal, small, counts ∙ ne_eqb _ _ c.if-not-counted.true)

pub returns-then-areas_short : goal.returns-then-areas_short
unfolding check_pack first_hit
returns-then-areas_short c =
    let legal : settings_legal c.args.s ≡ true =
    sym c.settings_legal.ensures ∙ c.if-not-settings_legal.false in
    let small : limited c.args.s.image ≡ true =
    sym c.limited-small.ensures ∙ c.if-not-small.false in
    let counts : eqb (length c.args.samples.now) (sample_count c.args.s.image) ≡ eqb (length c.args.samples.now) c.sample_count.result =
    ap (λ (n : ℕ). eqb (length c.args.samples.now) n) (sym c.sample_count.ensures) in
    let counted : eqb (length c.args.samples.now) (sample_count c.args.s.image) ≡ true =
    counts ∙ eq-eqb _ _ c.if-not-counted.false in
    rw (legal, small, counted, sym c.areas_short.ensures ∙ c.if-areas_short.true)

pub tables_legal-requires : goal.tables_legal-requires
tables_legal-requires c =
    let legal : settings_legal c.args.s ≡ true =
    sym c.settings_legal.ensures ∙ c.if-not-settings_legal.false in
    let roomy-areas : areas_short c.args.s c.args.scratch (length c.args.tables.now) ≡ false =
    sym c.areas_short.ensures ∙ c.if-areas_short.false in
    record {
      s_value = legal;
      nz_in_bounds = (roomy _ _ _ roomy-areas).tables_hold;
    }

pub returns-then-not-tables_legal : goal.returns-then-not-tables_legal
unfolding check_pack first_hit
returns-then-not-tables_legal c =
    let legal : settings_legal c.args.s ≡ true =
    sym c.settings_legal.ensures ∙ c.if-not-settings_legal.false in
    let small : limited c.args.s.image ≡ true =
    sym c.limited-small.ensures ∙ c.if-not-small.false in
    let counts : eqb (length c.args.samples.now) (sample_count c.args.s.image) ≡ eqb (length c.args.samples.now) c.sample_count.result =
    ap (λ (n : ℕ). eqb (length c.args.samples.now) n) (sym c.sample_count.ensures) in
    let counted : eqb (length c.args.samples.now) (sample_count c.args.s.image) ≡ true =
    counts ∙ eq-eqb _ _ c.if-not-counted.false in
    let roomy-areas : areas_short c.args.s c.args.scratch (length c.args.tables.now) ≡ false =
    sym c.areas_short.ensures ∙ c.if-areas_short.false in
    rw (legal, small, counted, roomy-areas, sym c.tables_legal.ensures ∙ c.if-not-tables_legal.true)

pub first_out-requires : goal.first_out-requires
first_out-requires c =
    let legal : settings_legal c.args.s ≡ true =
    sym c.settings_legal.ensures ∙ c.if-not-settings_legal.false in
    let l = (legal_settings c.args.s legal).image in record { le_depth = omega (arith, l.depth_least); depth_bound = l.depth_most }

pub returns-in-Some : goal.returns-in-Some
unfolding check_pack first_hit
returns-in-Some c =
    let legal : settings_legal c.args.s ≡ true =
    sym c.settings_legal.ensures ∙ c.if-not-settings_legal.false in
    let small : limited c.args.s.image ≡ true =
    sym c.limited-small.ensures ∙ c.if-not-small.false in
    let counts : eqb (length c.args.samples.now) (sample_count c.args.s.image) ≡ eqb (length c.args.samples.now) c.sample_count.result =
    ap (λ (n : ℕ). eqb (length c.args.samples.now) n) (sym c.sample_count.ensures) in
    let counted : eqb (length c.args.samples.now) (sample_count c.args.s.image) ≡ true =
    counts ∙ eq-eqb _ _ c.if-not-counted.false in
    let roomy-areas : areas_short c.args.s c.args.scratch (length c.args.tables.now) ≡ false =
    sym c.areas_short.ensures ∙ c.if-areas_short.false in
    let values : tables_legal c.args.s c.args.tables.now ≡ true =
    sym c.tables_legal.ensures ∙ c.if-not-tables_legal.false in
    rw (legal, small, counted, roomy-areas, values, c.in-Some.ensures.0, lt-ltb _ _ c.in-Some.ensures.1) (ap (λ (n : ℕ). Err (SampleOutOfRange n)) (omega arith))

pub returns : goal.returns
unfolding check_pack first_hit
returns c =
    let legal : settings_legal c.args.s ≡ true =
    sym c.settings_legal.ensures ∙ c.if-not-settings_legal.false in
    let small : limited c.args.s.image ≡ true =
    sym c.limited-small.ensures ∙ c.if-not-small.false in
    let counts : eqb (length c.args.samples.now) (sample_count c.args.s.image) ≡ eqb (length c.args.samples.now) c.sample_count.result =
    ap (λ (n : ℕ). eqb (length c.args.samples.now) n) (sym c.sample_count.ensures) in
    let counted : eqb (length c.args.samples.now) (sample_count c.args.s.image) ≡ true =
    counts ∙ eq-eqb _ _ c.if-not-counted.false in
    let roomy-areas : areas_short c.args.s c.args.scratch (length c.args.tables.now) ≡ false =
    sym c.areas_short.ensures ∙ c.if-areas_short.false in
    let values : tables_legal c.args.s c.args.tables.now ≡ true =
    sym c.tables_legal.ensures ∙ c.if-not-tables_legal.false in
    let all : first_out c.args.s.image c.args.samples.now ≡ length c.args.samples.now = search rules in
    rw (legal, small, counted, roomy-areas, values, all, le-ltb _ _ (le_refl (length c.args.samples.now)))

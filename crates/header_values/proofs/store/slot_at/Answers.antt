-- Each branch is a case of the slot.
use mathlib.Core.Path.{◌∙◌}
use native.Mathlib.Omega.{arith}
use borrow.Author.Tests.{not-true, not-false}
use mir.Facts.{to_z-of_z}
use mir.Syntax.{w32}
use Rattle.integers.specs.Laws.{ok}
use Rattle.header_values.proofs.StoreLaws.{slot_single, slot_default, slot_beyond, slot_accumulator, slot_weight}
use Rattle.header_values.proofs.store.slot_at.Goals as goal

pub returns-then-s : goal.returns-then-s
returns-then-s c =
    slot_accumulator _ c.args.s c.args.entries.at c.args.first c.args.z c.args.i c.if-i-eq-PARAMETER_SLOT.true c.if-s.true _ (to_z-of_z (ok w32 c.accumulator_at.result c.accumulator_at.type_inv) ∙ c.accumulator_at.ensures)

pub returns-then-i-eq-PARAMETER_SLOT : goal.returns-then-i-eq-PARAMETER_SLOT
returns-then-i-eq-PARAMETER_SLOT c = slot_single _ c.args.s c.args.entries.at c.args.first c.args.z c.args.i c.requires.0 c.if-i-eq-PARAMETER_SLOT.true c.if-s.false

pub returns-then-not-s : goal.returns-then-not-s
returns-then-not-s c = slot_default _ c.args.s c.args.entries.at c.args.first c.args.z c.args.i c.if-i-eq-PARAMETER_SLOT.false (not-true _ c.if-not-s.true)

pub weight_at-requires : goal.weight_at-requires
weight_at-requires c = (c.requires.0, not-false _ c.if-not-s.false, c.requires.1, c.requires.2, omega (arith, c.if-i-component_count.true, c.component_count.ensures))

pub returns-then-i-component_count : goal.returns-then-i-component_count
returns-then-i-component_count c =
    slot_weight _ c.args.s c.args.entries.at c.args.first c.args.z c.args.i c.if-i-eq-PARAMETER_SLOT.false (not-false _ c.if-not-s.false) (omega (arith, c.if-i-component_count.true, c.component_count.ensures)) _
    (to_z-of_z (ok w32 c.weight_at.result c.weight_at.type_inv) ∙ c.weight_at.ensures)

pub returns : goal.returns
returns c = slot_beyond _ c.args.s c.args.entries.at c.args.first c.args.z c.args.i c.if-i-eq-PARAMETER_SLOT.false (omega (arith, c.if-i-component_count.false, c.component_count.ensures))

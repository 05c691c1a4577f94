-- The boundary's statement is the cube's, behind the test of the slots.
use Rattle.std.specs.Prelude.{Ok}
use mathlib.Core.Path.{◌≡◌, sym, ◌∙◌}
use Rattle.settings_slots.specs.Slots.{slots_checked}
use Rattle.cube_c.specs.BoundaryLaws.{slots_pass}
use Rattle.cube_c.proofs.Boundaries.{lengths_refused, lengths_passed, refused_small, lengths_small}
use Rattle.cube_c.proofs.boundary.remulingka_length.Goals as goal

pub settings_from-requires : goal.settings_from-requires
settings_from-requires c =
    let passed : slots_checked c.args.settings.now ≡ (Ok tt) =
    sym c.slots_checked.ensures ∙ c.in-Ok.is in
    let l = slots_pass c.args.settings.now passed in record { slot_count_in_bounds = l.0; l_value = l.1 }

pub packed_word-requires : goal.packed_word-requires
packed_word-requires c = lengths_small c.settings_from.result c.args.tables.now c.args.samples.now c.args.scratch.now c.length.ensures

pub refusal_word-requires : goal.refusal_word-requires
refusal_word-requires c = refused_small c.args.settings.now c.in-Err.w (sym c.slots_checked.ensures ∙ c.in-Err.is)

pub returns-in-Ok : goal.returns-in-Ok
returns-in-Ok c =
    let passed : slots_checked c.args.settings.now ≡ (Ok tt) =
    sym c.slots_checked.ensures ∙ c.in-Ok.is in
    lengths_passed c.args.settings.now c.args.tables.now c.args.samples.now c.args.scratch.now passed c.settings_from.ensures c.length.ensures c.packed_word.ensures

pub returns-in-Err : goal.returns-in-Err
returns-in-Err c = lengths_refused c.args.settings.now c.args.tables.now c.args.samples.now c.args.scratch.now c.in-Err.w (sym c.slots_checked.ensures ∙ c.in-Err.is) c.refusal_word.ensures

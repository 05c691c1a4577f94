-- Each arm is the definition's clause.
use Rattle.std.specs.Prelude.{Result}
use mathlib.Core.Path.{◌∙◌, sym, ap, subst}
use Rattle.settings.specs.declared.Settings.{Settings}
use Rattle.cube_c.specs.Boundary.{Storable, slots_after}
use borrow.Author.Rules.{rules}
use Rattle.refusals.specs.declared.Refusal.{Refusal}
use Rattle.cube_c.proofs.answer.put_answer.Goals as goal

pub put_settings-requires : goal.put_settings-requires
unfolding Storable
put_settings-requires c = record {
  slot_count_in_bounds = c.requires.slot_count_in_bounds;
  small = subst Storable c.in-Ok.is c.requires.storable;
}

pub returns-in-Ok : goal.returns-in-Ok
unfolding slots_after
returns-in-Ok c = c.put_settings.ensures ∙ sym (ap (λ (r : Result Settings Refusal). slots_after r c.args.l.now) c.in-Ok.is)

pub returns-in_default : goal.returns-in_default
unfolding slots_after
returns-in_default c = search rules

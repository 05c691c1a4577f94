-- Default weights ask for nothing; of custom ones a band has slots for all.
use Rattle.std.proofs.Common.{ℕ, ◌≡◌, ◌≤◌, arith}
use Rattle.settings.specs.declared.Predictor.{Predictor}
use Rattle.settings.specs.Tables.{component_count}
use Rattle.settings.specs.TableLaws.{components_fit, weights_asked}
use Rattle.checks.proofs.Searches.{every_slot}
use Rattle.checks.proofs.tables.custom_legal.Goals as goal

few : (p : Predictor) (z n : ℕ) → p.bands ≤ 15 → n ≡ component_count p z → n ≤ 18
few p z n h e = omega (arith, e, components_fit p z h)

pub overflow_add-base : goal.overflow_add-base
overflow_add-base c = omega (arith, few _ _ _ c.requires.bands_bound c.component_count-count.ensures)

pub slice_bounds-weights_legal-end : goal.slice_bounds-weights_legal-end
slice_bounds-weights_legal-end c = omega (arith, few _ _ _ c.requires.bands_bound c.component_count-count.ensures)

pub returns : goal.returns
returns c =
    weights_asked c.args.p c.args.tables.now c.args.z c.if-not-p.false c.component_count-count.ensures
    (every_slot c.args.tables.now c.args.p.precision c.args.z c.component_count-count.result (omega (arith, few _ _ _ c.requires.bands_bound c.component_count-count.ensures)) c.weights_legal.ensures)

-- Each turn lays the next band.
use Rattle.std.proofs.Common.{arith}
use Rattle.settings.specs.LegalLaws.{legal_predictor}
use Rattle.settings.specs.TableLaws.{components_fit}
use Rattle.header.specs.SizeLaws.{components_most}
use Rattle.header_values.proofs.StoreLaws.{bands_begin, bands_more, bands_all, storing_done, storing_facts}
use Rattle.header_values.proofs.store.store_tables.Goals as goal

pub weights_size-requires : goal.weights_size-requires
weights_size-requires c = let f = storing_facts _ _ _ c.requires in (f.legal, f.image.bands)

pub loop-z-init : goal.loop-z-init
loop-z-init c = bands_begin _ _ _

pub store_band-requires : goal.store_band-requires
store_band-requires c =
    let v = c.loop-z.invariant in
    (storing_done _ _ _ _ c.requires c.weights_size.ensures.0, v.components, c.loop-z-test.true, omega (arith, v.long, c.requires.area))

pub overflow_add-first : goal.overflow_add-first
overflow_add-first c =
    let f = storing_facts _ _ _ c.requires in
    let v = c.loop-z.invariant in
    omega (arith, c.component_count-first.ensures, v.components, v.most, f.image.bands, components_most c.args.s.predictor c.loop-z.z (legal_predictor _ _ f.legal).bands_most, components_fit c.args.s.predictor c.loop-z.z (legal_predictor _ _ f.legal).bands_most)

pub loop-z-preserved : goal.loop-z-preserved
loop-z-preserved c = bands_more _ _ _ _ _ _ _ _ c.loop-z.invariant c.loop-z-test.true c.component_count-first.ensures c.store_band.ensures

pub returns : goal.returns
returns c = bands_all _ _ _ _ _ _ _ (storing_done _ _ _ _ c.requires c.weights_size.ensures.0) c.loop-z.invariant (omega arith)

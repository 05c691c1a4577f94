-- A band is legal where both of its parts are; legal settings bound the depth, the precision and the number of components.
use Rattle.std.proofs.Common.{arith}
use Rattle.settings.specs.Tables.{band_legal}
use Rattle.settings.specs.LegalLaws.{legal_settings}
use Rattle.checks.proofs.tables.band_legal.Goals as goal

pub custom_legal-requires : goal.custom_legal-requires
custom_legal-requires c =
    let l = (legal_settings c.args.s c.requires.s_value).predictor in
    record {
      bands_bound = l.bands_most;
      le_precision = λ q. let k = l.precise q in (omega (arith, k.0), omega (arith, k.1, l.resolution_most));
      z_in_bounds = c.requires.z_in_bounds;
    }

pub tabled_legal-requires : goal.tabled_legal-requires
tabled_legal-requires c =
    let l = (legal_settings c.args.s c.requires.s_value).image in
    record {
      le_depth = l.depth_least;
      depth_bound = l.depth_most;
      z_in_bounds = c.requires.z_in_bounds;
    }

pub returns : goal.returns
unfolding band_legal
returns c = rw (c.custom_legal.ensures, c.tabled_legal.ensures)

-- The header as bits (5.3.1): three parts, each of whole bytes.
use Rattle.std.specs.Prelude.{Bool, cond, List, [], ◌++◌, ℤ}
use Rattle.bitstream.specs.Stream.{filled}
use Rattle.settings.specs.declared.Settings.{Settings}
use Rattle.header.specs.Fields.{fields}
use Rattle.header.specs.Parts.{image_fields, predictor_fields, coder_fields, used_image, used_predictor, used_coder}
use Rattle.header.specs.Tables.{weight_table, accumulator_table}

-- the weight table where weights are custom (5.3.3.2)
unfoldable pub weight_part : Settings → List ℤ → List Bool
weight_part S tables = cond S.predictor.custom (filled 8 (weight_table S.predictor S.image.nz tables)) []

-- the table of k' where there is no K (5.3.4.2.2)
unfoldable pub accumulator_part : Settings → List ℤ → List Bool
accumulator_part S tables = cond S.coder.tabled (filled 8 (accumulator_table S.image.nz tables)) []

-- the parts of image, predictor and coder, each with its table (5.3.1)
unfoldable pub header : Settings → List ℤ → List Bool
header S tables =
    fields (image_fields S.image 0)
    ++ fields (predictor_fields S.predictor) ++ weight_part S tables
    ++ fields (coder_fields S.coder) ++ accumulator_part S tables

-- the settings with those that are none as 0
unfoldable pub used_settings : Settings → Settings
used_settings S =
    record { image = used_image S.image; predictor = used_predictor S.predictor; coder = used_coder S.coder }

-- Each field of the settings is what the definition takes from the numbers.
use Prim.Native.Nat.{◌+◌}
use native.Mathlib.Omega.{arith}
use Rattle.header.specs.Places.{◌‼◌, prediction_bands, prediction_mode, local_sum_type, weight_resolution, initial_exponent, final_exponent, weight_method, weight_table_flag}
use Rattle.header.specs.Parts.{is_one, predictor_of}
use Rattle.header.proofs.Signs.{lowered}
use Rattle.header_values.proofs.parts.predictor_of.Goals as goal

pub returns : goal.returns
unfolding predictor_of
returns c =
    let v = c.args.v in
    λ i. record {
      bands = v ‼ prediction_bands;
      reduced = is_one (v ‼ prediction_mode);
      column = is_one (v ‼ local_sum_type);
      register = c.unwrapped.ensures i;
      resolution = v ‼ weight_resolution + 4;
      interval = c.power_of.ensures i;
      vmin = (lowered (v ‼ initial_exponent) (omega arith)).is i;
      vmax = (lowered (v ‼ final_exponent) (omega arith)).is i;
      custom = is_one (v ‼ weight_method);
      precision = c.chosen.ensures i;
      weights_in_file = is_one (v ‼ weight_table_flag);
    }

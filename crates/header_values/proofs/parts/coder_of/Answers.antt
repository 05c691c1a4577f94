-- Each field of the settings is what the definition takes from the numbers.
use Prim.Native.Nat.{◌+◌}
use Rattle.header.specs.Places.{◌‼◌, rescaling_size, accumulator_constant, accumulator_table_flag}
use Rattle.header.specs.Parts.{is_one, no_constant, coder_of}
use Rattle.header_values.proofs.parts.coder_of.Goals as goal

pub returns : goal.returns
unfolding coder_of
returns c = λ i. record {
  unary = c.unwrapped.ensures i;
  rescaling = c.args.v ‼ rescaling_size + 4;
  initial = c.unwrapped-2.ensures i;
  tabled = no_constant (c.args.v ‼ accumulator_constant);
  constant = c.chosen.ensures i;
  k_in_file = is_one (c.args.v ‼ accumulator_table_flag);
}

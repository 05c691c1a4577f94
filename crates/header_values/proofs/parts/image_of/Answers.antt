-- Each field of the settings is what the definition takes from the numbers.
use mathlib.Core.Path.{ap, ◌∙◌}
use mathlib.Core.Bool.{cond}
use Prim.Native.Nat.{ℕ}
use Rattle.header.specs.Places.{◌‼◌, user_data, sample_type, encoding_order}
use Rattle.header.specs.Parts.{is_one, image_of}
use Rattle.header_values.proofs.parts.image_of.Goals as goal

pub returns : goal.returns
unfolding image_of
returns c =
    let v = c.args.v in
    λ i. record {
      user = v ‼ user_data;
      nx = c.unwrapped.ensures i;
      ny = c.unwrapped-2.ensures i;
      nz = c.unwrapped-3.ensures i;
      signed = is_one (v ‼ sample_type);
      depth = c.unwrapped-4.ensures i;
      sequential = is_one (v ‼ encoding_order);
      interleave = (c.chosen.ensures ∙ ap (λ (n : ℕ). cond (is_one (v ‼ encoding_order)) 0 n) c.unwrapped-5.ensures) i;
      word = c.unwrapped-6.ensures i;
    }

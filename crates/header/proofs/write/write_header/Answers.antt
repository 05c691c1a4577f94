-- The five parts stand one behind the other, and the first four are short.
use native.Mathlib.Omega.{arith}
use Rattle.bitstream.proofs.Writes.{put_then}
use Rattle.header.specs.SizeLaws.{length_weight_part, weights_size_most}
use Rattle.header.proofs.WriteLaws.{facts}
use Rattle.header.specs.PartLaws.{length_image, length_predictor, length_coder}
use Rattle.header.specs.Write.{header}
use Rattle.header.proofs.write.write_header.Goals as goal

pub write_predictor-predictor-requires : goal.write_predictor-predictor-requires
write_predictor-predictor-requires c =
    let p = c.write_image-image.ensures in
    ((facts _ _ c.requires.0).predictor, omega (arith, p.size, length_image c.args.s.image 0))

pub write_weights-weights-requires : goal.write_weights-weights-requires
write_weights-weights-requires c =
    let p = c.write_image-image.ensures in
    let q = c.write_predictor-predictor.ensures in
    (c.requires.0, omega (arith, p.size, q.size, length_image c.args.s.image 0, length_predictor c.args.s.predictor))

pub write_coder-coder-requires : goal.write_coder-coder-requires
write_coder-coder-requires c =
    let f = facts _ _ c.requires.0 in
    let p = c.write_image-image.ensures in
    let q = c.write_predictor-predictor.ensures in
    let w = c.write_weights-weights.ensures in (
      f.coder,
      omega (arith, p.size, q.size, w.size, length_image c.args.s.image 0, length_predictor c.args.s.predictor, length_weight_part c.args.s c.args.tables.now, weights_size_most _ _ f.predictor f.bands),
    )

pub write_accumulators-requires : goal.write_accumulators-requires
write_accumulators-requires c =
    let f = facts _ _ c.requires.0 in
    let p = c.write_image-image.ensures in
    let q = c.write_predictor-predictor.ensures in
    let w = c.write_weights-weights.ensures in
    let k = c.write_coder-coder.ensures in (
      c.requires.0,
      omega (arith, p.size, q.size, w.size, k.size, length_image c.args.s.image 0, length_predictor c.args.s.predictor, length_weight_part c.args.s c.args.tables.now, weights_size_most _ _ f.predictor f.bands, length_coder c.args.s.coder),
    )

pub returns : goal.returns
unfolding header
returns c =
    put_then (put_then (put_then (put_then c.write_image-image.ensures c.write_predictor-predictor.ensures) c.write_weights-weights.ensures) c.write_coder-coder.ensures)
    c.write_accumulators.ensures

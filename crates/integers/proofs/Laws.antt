-- The laws under one name, for the crates above: `use Rattle.integers.proofs.Laws.{zs, add, sub, ..}`.
pub use Rattle.integers.specs.Parts.{P, N, zs, one0, abs_parts, ext, eq_parts, le_parts, lt_parts, le_of, lt_of, le_z_true, le_z_false, lt_z_true, lt_z_false, non_neg_of, non_neg_N, fits_parts, fits_of, Sum, add, sub, neg, neg_P, neg_N}
pub use Rattle.integers.specs.Products.{mul_P, mul_N, mul_size, mul_bound}
pub use Rattle.integers.specs.Floors.{Floor}
pub use Rattle.integers.proofs.Floors.{floor, floor_is, floor_mod_range, floor_mod_sum, shr_floor, shr_fits, floor_fits}
pub use Rattle.integers.specs.Clipping.{clip_in, clip_inside}
pub use Rattle.integers.proofs.Register.{wrap_is, wrap_differs, wrap_range, wrap_inside}
pub use Rattle.integers.specs.Widths.{ok, fits_P, fits_by, fits_within, within_fits, same_bits, wide, add_wide, sub_wide, mul_wide, z64}
pub use Rattle.integers.specs.Sizes.{Sz}
pub use Rattle.integers.proofs.Sizes.{sz_lit, sz_of, sz_abs, sz_add, sz_sub, sz_mul, sz_floor, sz_fits}

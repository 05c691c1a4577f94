-- The fields put are those of the definition.
use Rattle.std.proofs.Common.{refl, ◌∙◌, arith}
use mir.Facts.{to_z-of_z}
use Rattle.header.proofs.Signs.{raised_natural}
use Rattle.header.proofs.WriteLaws.{from_flag, power_log, power_some, first_end, last_end}
use Rattle.header.specs.Parts.{predictor_fields}
use Rattle.header.specs.Plain.{fitting}
use Rattle.header.specs.Writing.{fields_of}
use Rattle.settings.specs.LegalLaws.{legal_predictor}
use Rattle.header.proofs.write.write_predictor.Goals as goal

pub ilog2-interval-requires : goal.ilog2-interval-requires
ilog2-interval-requires c = power_some _ (legal_predictor _ _ c.requires.0).interval_power

pub overflow_sub-interval : goal.overflow_sub-interval
overflow_sub-interval c = (power_log _ _ (legal_predictor _ _ c.requires.0).interval_power c.ilog2-interval.ensures.power_le c.ilog2-interval.ensures.next_power_gt).least

pub overflow_add-p : goal.overflow_add-p
overflow_add-p c = let l = legal_predictor _ _ c.requires.0 in let e = first_end _ _ l in rw (to_z-of_z e.fits) (raised_natural _ e.least e.most).fits

pub overflow_add-p-2 : goal.overflow_add-p-2
overflow_add-p-2 c = let l = legal_predictor _ _ c.requires.0 in let e = last_end _ _ l in rw (to_z-of_z e.fits) (raised_natural _ e.least e.most).fits

pub overflow_sub-resolution : goal.overflow_sub-resolution
overflow_sub-resolution c = (legal_predictor _ _ c.requires.0).resolution_least

pub put_fields-requires : goal.put_fields-requires
unfolding fitting
put_fields-requires c = (refl, refl, omega arith, c.requires.1)

pub returns : goal.returns
unfolding predictor_fields fields_of
returns c =
    let l = legal_predictor _ _ c.requires.0 in
    let interval = (power_log _ _ l.interval_power c.ilog2-interval.ensures.power_le c.ilog2-interval.ensures.next_power_gt).is in
    let f = first_end _ _ l in
    let e = last_end _ _ l in
    let low = rw (to_z-of_z f.fits, to_z-of_z (raised_natural _ f.least f.most).fits) at c.unsigned_abs-vmin.ensures.value in
    let high = rw (to_z-of_z e.fits, to_z-of_z (raised_natural _ e.least e.most).fits) at c.unsigned_abs-vmax.ensures.value in
    rw (c.from-reduced.ensures ∙ from_flag _, c.from-column.ensures ∙ from_flag _, interval, low, high, c.from-custom.ensures ∙ from_flag _, c.from-in_file.ensures ∙ from_flag _, c.chosen-precision.ensures) at c.put_fields.ensures

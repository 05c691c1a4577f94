-- Each part goes behind the one before it; what stands behind all three is what stood there.
use Rattle.std.proofs.Common.{◌≡◌, ◌∙◌, ap, List, ℤ, ◌++◌, drop, drop-drop}
use Rattle.settings_slots.specs.Slots.{slots_of}
use Rattle.settings_slots.specs.Storing.{image_slots, predictor_slots, coder_slots}
use Rattle.settings_slots.proofs.slots.put_settings.Goals as goal

pub returns : goal.returns
unfolding slots_of image_slots predictor_slots coder_slots
returns c =
    let l = c.args.l.now in
    let behind : drop 5 (drop 10 (drop 9 l)) ≡ drop 24 l = drop-drop 5 10 (drop 9 l) ∙ drop-drop 15 9 l in
    rw (c.copy_from_slice.ensures.after, c.copy_from_slice-2.ensures.after, c.copy_from_slice-3.ensures.after, c.image_slots.ensures, c.predictor_slots.ensures, c.coder_slots.ensures)
    (ap (λ (x : List ℤ). slots_of c.args.s ++ x) behind)

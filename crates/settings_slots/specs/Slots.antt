-- Settings as 24 slots of signed 32-bit numbers, in the order user, Nx, Ny, Nz, signed, D, order, M, B, P, reduced, column, R, Ω, tinc,
-- vmin, vmax, custom, Q, Umax, γ*, γ0, k' table, K.
use Rattle.std.specs.Prelude.{Bool, cond, not, ◌&&◌, ◌||◌, List, [], ◌∷◌, ℕ, ℤ, pos, nat_abs, length, get_or, ltb, Result, ⊤}
use Rattle.std.specs.Int.Signed.{le_z}
use Rattle.refusals.specs.declared.Refusal.TheVariants.{IllegalSetting, WrongCount}
use Rattle.refusals.specs.Tests.{Test, ◌⇒◌, first_hit}
use Rattle.settings.specs.declared.Image.{Image}
use Rattle.settings.specs.declared.Predictor.{Predictor}
use Rattle.settings.specs.declared.Coder.{Coder}
use Rattle.refusals.specs.declared.Refusal.{Refusal}
use Rattle.settings.specs.declared.Settings.{Settings}

-- the slots of a settings list
abbrev pub slot_count : ℕ
slot_count = 24

-- what slot i holds
abbrev pub slot : List ℤ → ℕ → ℤ
slot l i = get_or l i (pos 0)

-- 0 ≤ v
abbrev pub natural : ℤ → Bool
natural v = le_z (pos 0) v

-- 0 ≤ v ≤ high
abbrev pub up_to : ℤ → ℕ → Bool
up_to v high = le_z (pos 0) v && le_z v (pos high)

-- a flag that is set
abbrev pub is_set : ℤ → Bool
is_set v = le_z (pos 1) v

-- the image's record can hold its slots; one that is no setting is not looked at
unfoldable pub image_holds : List ℤ → Bool
image_holds l =
    up_to (slot l 0) 255 && natural (slot l 1) && natural (slot l 2) && natural (slot l 3) && up_to (slot l 4) 1 && natural (slot l 5)
    && up_to (slot l 6) 1 && (is_set (slot l 6) || natural (slot l 7)) && natural (slot l 8)

-- the predictor's
unfoldable pub predictor_holds : List ℤ → Bool
predictor_holds l =
    natural (slot l 9) && up_to (slot l 10) 1 && up_to (slot l 11) 1 && natural (slot l 12) && natural (slot l 13) && natural (slot l 14)
    && up_to (slot l 17) 1 && (not (is_set (slot l 17)) || natural (slot l 18))

-- the coder's
unfoldable pub coder_holds : List ℤ → Bool
coder_holds l =
    natural (slot l 19) && natural (slot l 20) && natural (slot l 21) && up_to (slot l 22) 1 && (is_set (slot l 22) || natural (slot l 23))

-- all three
unfoldable pub holds : List ℤ → Bool
holds l = image_holds l && predictor_holds l && coder_holds l

-- a settings list that is too short, before anything else
abbrev pub too_short : List ℤ → Test
too_short slots = ltb (length slots) slot_count ⇒ WrongCount

-- and, of settings that are given, a slot that the record cannot hold
unfoldable pub slots_checked : List ℤ → Result ⊤ Refusal
slots_checked slots = first_hit (too_short slots ∷ not (holds slots) ⇒ IllegalSetting ∷ [])

-- the image settings that the slots name
unfoldable pub image_from : List ℤ → Image
image_from l = record {
  user = nat_abs (slot l 0);
  nx = nat_abs (slot l 1);
  ny = nat_abs (slot l 2);
  nz = nat_abs (slot l 3);
  signed = is_set (slot l 4);
  depth = nat_abs (slot l 5);
  sequential = is_set (slot l 6);
  interleave = cond (is_set (slot l 6)) 0 (nat_abs (slot l 7));
  word = nat_abs (slot l 8);
}

-- the predictor settings
unfoldable pub predictor_from : List ℤ → Predictor
predictor_from l = record {
  bands = nat_abs (slot l 9);
  reduced = is_set (slot l 10);
  column = is_set (slot l 11);
  register = nat_abs (slot l 12);
  resolution = nat_abs (slot l 13);
  interval = nat_abs (slot l 14);
  vmin = slot l 15;
  vmax = slot l 16;
  custom = is_set (slot l 17);
  precision = cond (is_set (slot l 17)) (nat_abs (slot l 18)) 0;
  weights_in_file = is_set (slot l 17);
}

-- the coder settings
unfoldable pub coder_from : List ℤ → Coder
coder_from l = record {
  unary = nat_abs (slot l 19);
  rescaling = nat_abs (slot l 20);
  initial = nat_abs (slot l 21);
  tabled = is_set (slot l 22);
  constant = cond (is_set (slot l 22)) 0 (nat_abs (slot l 23));
  k_in_file = is_set (slot l 22);
}

-- the settings
unfoldable pub settings_from : List ℤ → Settings
settings_from l = record { image = image_from l; predictor = predictor_from l; coder = coder_from l }

-- a flag as a number
abbrev pub flag_slot : Bool → ℤ
flag_slot b = cond b (pos 1) (pos 0)

-- the slots of a record
unfoldable pub slots_of : Settings → List ℤ
slots_of S =
    pos S.image.user ∷ pos S.image.nx ∷ pos S.image.ny ∷ pos S.image.nz ∷ flag_slot S.image.signed
    ∷ pos S.image.depth ∷ flag_slot S.image.sequential ∷ pos S.image.interleave ∷ pos S.image.word
    ∷ pos S.predictor.bands ∷ flag_slot S.predictor.reduced ∷ flag_slot S.predictor.column
    ∷ pos S.predictor.register ∷ pos S.predictor.resolution ∷ pos S.predictor.interval
    ∷ S.predictor.vmin ∷ S.predictor.vmax ∷ flag_slot S.predictor.custom ∷ pos S.predictor.precision
    ∷ pos S.coder.unary ∷ pos S.coder.rescaling ∷ pos S.coder.initial ∷ flag_slot S.coder.tabled
    ∷ pos S.coder.constant ∷ []

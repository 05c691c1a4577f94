-- The laws of slots: a user byte of slots that hold, and slots of settings, which hold.
use Rattle.std.specs.Prelude.{◌≡◌, refl, Bool, true, false, not, ◌||◌, List, [], ◌∷◌, ℕ, ◌≤◌, ◌<◌, ℤ, pos, negsuc, nat_abs}
use Rattle.std.proofs.Math.Bool.{and-eq-true_iff}
use Rattle.std.proofs.Common.{zero-le, arith, leb-true, le-leb}
use Rattle.std.specs.Int.Signed.{le_z}
use Rattle.settings.specs.declared.Settings.{Settings}
use Rattle.settings.specs.Truths.{parts, whole, or_of}
use Rattle.settings_slots.specs.Slots.{slot, natural, up_to, is_set, image_holds, predictor_holds, coder_holds, holds, flag_slot, slots_of}

up_to_size : (v : ℤ) (high : ℕ) → up_to v high ≡ true → nat_abs v ≤ high
up_to_size (pos n) high e = leb-true n high ((and-eq-true_iff (le_z (pos 0) (pos n)) (le_z (pos n) (pos high))).0 e).1
up_to_size (negsuc n) high e = let z : ◌≡◌ {A = ℕ} 0 1 = cc in absurd (omega arith)

-- the tests of each part behind the first
abbrev image_tests : List ℤ → List Bool
image_tests l =
    natural (slot l 1) ∷ natural (slot l 2) ∷ natural (slot l 3) ∷ up_to (slot l 4) 1 ∷ natural (slot l 5) ∷ up_to (slot l 6) 1
    ∷ (is_set (slot l 6) || natural (slot l 7)) ∷ natural (slot l 8) ∷ []

abbrev predictor_tests : List ℤ → List Bool
predictor_tests l =
    up_to (slot l 10) 1 ∷ up_to (slot l 11) 1 ∷ natural (slot l 12) ∷ natural (slot l 13) ∷ natural (slot l 14) ∷ up_to (slot l 17) 1
    ∷ (not (is_set (slot l 17)) || natural (slot l 18)) ∷ []

abbrev coder_tests : List ℤ → List Bool
coder_tests l =
    natural (slot l 20) ∷ natural (slot l 21) ∷ up_to (slot l 22) 1 ∷ (is_set (slot l 22) || natural (slot l 23)) ∷ []

-- a user byte of slots that hold
pub user_small : (l : List ℤ) → holds l ≡ true → nat_abs (slot l 0) < 256
unfolding holds image_holds
user_small l e =
    let h = parts (image_holds l) (predictor_holds l ∷ coder_holds l ∷ []) e in
    let u = up_to_size (slot l 0) 255 (parts (up_to (slot l 0) 255) (image_tests l) h.0).0 in
    omega arith

-- ---- slots of settings

number_natural : (n : ℕ) → natural (pos n) ≡ true
number_natural n = le-leb 0 n zero-le

flag_fits : (b : Bool) → up_to (flag_slot b) 1 ≡ true
flag_fits true = refl
flag_fits false = refl

-- the record can hold the slots of settings
pub slots_hold : (S : Settings) → S.image.user ≤ 255 → holds (slots_of S) ≡ true
unfolding holds image_holds predictor_holds coder_holds slots_of
slots_hold S h =
    let l = slots_of S in
    whole (image_holds l) (predictor_holds l ∷ coder_holds l ∷ []) (
      whole (up_to (slot l 0) 255) (image_tests l) (
        (and-eq-true_iff (natural (slot l 0)) (le_z (slot l 0) (pos 255))).1 (number_natural S.image.user, le-leb S.image.user 255 h),
        (
          number_natural S.image.nx,
          (
            number_natural S.image.ny,
            (
              number_natural S.image.nz,
              (
                flag_fits S.image.signed,
                (
                  number_natural S.image.depth,
                  (flag_fits S.image.sequential, (or_of (is_set (slot l 6)) (natural (slot l 7)) (λ _. number_natural S.image.interleave), (number_natural S.image.word, tt))),
                ),
              ),
            ),
          ),
        ),
      ),
      (
        whole (natural (slot l 9)) (predictor_tests l) (
          number_natural S.predictor.bands,
          (
            flag_fits S.predictor.reduced,
            (
              flag_fits S.predictor.column,
              (
                number_natural S.predictor.register,
                (
                  number_natural S.predictor.resolution,
                  (
                    number_natural S.predictor.interval,
                    (flag_fits S.predictor.custom, (or_of (not (is_set (slot l 17))) (natural (slot l 18)) (λ _. number_natural S.predictor.precision), tt)),
                  ),
                ),
              ),
            ),
          ),
        ),
        (
          whole (natural (slot l 19)) (coder_tests l)
              (number_natural S.coder.unary, (number_natural S.coder.rescaling, (number_natural S.coder.initial, (flag_fits S.coder.tabled, (or_of (is_set (slot l 22)) (natural (slot l 23)) (λ _. number_natural S.coder.constant), tt))))),
          tt,
        ),
      ),
    )

-- Packing answers with the file's length where all tests pass and it fits, with 6 where all pass and it does not, and never otherwise.
use Rattle.std.proofs.Math.Path.{◌≡◌, refl, sym, subst}
use Rattle.std.specs.Prelude.{⊤}
use Rattle.std.proofs.Common.{◌∙◌, arith, Result, Ok, Err}
use Rattle.std.specs.Prelude.{Bool, List, ℕ, ◌<◌, ◌≤◌, ℤ, pos, get_or}
use Rattle.std.proofs.Math.Bool.{true, false, cond}
use Rattle.std.proofs.Math.Decide.{dec_lt}
use Rattle.std.proofs.Math.ListN.{length, get_or-eq_default}
use Rattle.std.proofs.Math.Dec.{ltb}
use borrow.Author.Tests.{lt-ltb, le-ltb, ltb-true, ltb-false}
use Rattle.settings.specs.declared.Settings.{Settings}
use Rattle.refusals.specs.declared.Refusal.{Refusal}
use Rattle.refusals.specs.declared.Refusal.TheVariants.{NoRoom}
use Rattle.settings.specs.LegalLaws.{legal_settings}
use Rattle.settings.specs.Range.{in_range}
use Rattle.settings.specs.RangeLaws.{zero_in_range, all_in_range, first_out_of_all}
use Rattle.refusals.specs.Refusals.{number}
use Rattle.settings.specs.Checks.{check_pack}
use Rattle.settings.specs.CheckLaws.{Fine, Roomy, fine, fine_passes}
use Rattle.cube.specs.File.{file, length_answer, packed}
use Rattle.cube.specs.Terms.{Allowed}
use Rattle.refusals.specs.Calls.{among, length_refuses}
use Rattle.cube.specs.CallLaws.{length_listed}

-- ---- what passes the tests is allowed, and memory enough is lent; and back

module _ (S : Settings) (tables samples : List ℤ) (scratch : ℕ) where
  pub fine_allowed : Fine S tables samples scratch → Allowed S tables samples
  fine_allowed f = record { legal = f.legal; within = f.small; entries = f.values; good = record { long = f.counted; in_range_lem = λ i. go i (dec_lt i (length samples)) } }
    where
      go : (i : ℕ) → Dec (i < length samples) → in_range S.image (get_or samples i (pos 0)) ≡ true
      go i (yes l) = all_in_range S.image samples f.in_range_lem i l
      go i (no l) =
          subst (λ (v : ℤ). in_range S.image v ≡ true) (sym (get_or-eq_default samples (pos 0) (omega arith)))
          (zero_in_range S.image (let d = (legal_settings S f.legal).image.depth_least in omega arith))

  pub allowed_fine : Allowed S tables samples → Roomy S scratch (length tables) → Fine S tables samples scratch
  allowed_fine a m = record {
    legal = a.legal;
    small = a.within;
    counted = a.good.long;
    room = m;
    values = a.entries;
    in_range_lem = first_out_of_all S.image samples (λ k _. a.good.in_range_lem k);
  }

  -- ---- the length count

  pub length_fine : Fine S tables samples scratch → length_answer S tables samples scratch ≡ Ok (length (file S tables samples))
  unfolding length_answer
  length_fine f = rw (fine_passes S tables samples scratch f)

  pub length_only : (n : ℕ) → length_answer S tables samples scratch ≡ Ok n → Fine S tables samples scratch × (n ≡ length (file S tables samples))
  unfolding length_answer
  length_only n e = go (check_pack S tables samples scratch) refl
    where
      go : (x : Result ⊤ Refusal) → check_pack S tables samples scratch ≡ x → Fine S tables samples scratch × (n ≡ length (file S tables samples))
      go (Ok tt) p = let f = fine S tables samples scratch p in let k = length_fine f in (f, cc)
      go (Err w) p =
          let k : length_answer S tables samples scratch ≡ Err w = rw p in
          let z : ◌≡◌ {A = ℕ} 0 1 = cc in
          absurd (omega arith)

  -- ---- packing into so many bytes

  module _ (room : ℕ) where
    pub packed_fits : Fine S tables samples scratch → length (file S tables samples) ≤ room → packed S tables samples scratch room ≡ Ok (length (file S tables samples))
    unfolding packed
    packed_fits f h = rw (length_fine f, le-ltb room (length (file S tables samples)) h)

    pub packed_too_long : Fine S tables samples scratch → room < length (file S tables samples) → packed S tables samples scratch room ≡ Err (NoRoom (length (file S tables samples)))
    unfolding packed
    packed_too_long f h = rw (length_fine f, lt-ltb room (length (file S tables samples)) h)

    by_length : (x : Result ℕ Refusal) → length_answer S tables samples scratch ≡ x
        → ((n : ℕ) → packed S tables samples scratch room ≡ Ok n → Fine S tables samples scratch × (n ≡ length (file S tables samples)) × (n ≤ room))
        × ((n : ℕ) → packed S tables samples scratch room ≡ Err (NoRoom n) → Fine S tables samples scratch × (n ≡ length (file S tables samples)) × (room < n))
    unfolding packed among number
    by_length (Err w) p =
        let k : packed S tables samples scratch room ≡ Err w = rw p in (
          λ n e. let z : ◌≡◌ {A = ℕ} 0 1 = cc in absurd (omega arith),
          λ n e.
              let m : w ≡ NoRoom n = cc in
              let q : false ≡ true = subst (λ (v : Refusal). among length_refuses (number v) ≡ true) m (length_listed S tables samples scratch w p) in
              let z : ◌≡◌ {A = ℕ} 0 1 = cc in
              absurd (omega arith),
        )
    by_length (Ok m) p = let k : packed S tables samples scratch room ≡ cond (ltb room m) (Err (NoRoom m)) (Ok m) = rw p in let f = length_only m p in (λ n e. fits n (ltb room m) refl (sym k ∙ e), λ n e. over n (ltb room m) refl (sym k ∙ e))
      where
        fits : (n : ℕ) (b : Bool) → ltb room m ≡ b → cond b (Err (NoRoom m)) (Ok m) ≡ Ok n → Fine S tables samples scratch × (n ≡ length (file S tables samples)) × (n ≤ room)
        fits n true q e = let z : ◌≡◌ {A = ℕ} 0 1 = cc in absurd (omega arith)
        fits n false q e = let f = length_only m p in let c : m ≡ n = cc in (f.0, sym c ∙ f.1, let l = ltb-false room m q in omega arith)

        over : (n : ℕ) (b : Bool) → ltb room m ≡ b → cond b (Err (NoRoom m)) (Ok m) ≡ Err (NoRoom n) → Fine S tables samples scratch × (n ≡ length (file S tables samples)) × (room < n)
        over n true q e = let f = length_only m p in let c : m ≡ n = cc in (f.0, sym c ∙ f.1, let l = ltb-true room m q in omega arith)
        over n false q e = let z : ◌≡◌ {A = ℕ} 0 1 = cc in absurd (omega arith)

    -- a length is answered for what is fine and fits
    pub packed_only : (n : ℕ) → packed S tables samples scratch room ≡ Ok n → Fine S tables samples scratch × (n ≡ length (file S tables samples)) × (n ≤ room)
    packed_only = (by_length (length_answer S tables samples scratch) refl).0

    -- 6 is answered for what is fine and does not fit
    pub no_room_only : (n : ℕ) → packed S tables samples scratch room ≡ Err (NoRoom n) → Fine S tables samples scratch × (n ≡ length (file S tables samples)) × (room < n)
    no_room_only = (by_length (length_answer S tables samples scratch) refl).1

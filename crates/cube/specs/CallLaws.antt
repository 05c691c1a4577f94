-- Each call refuses with the numbers of its own list alone: every test and every step of its definition carries one of them.
use Rattle.std.proofs.Math.Path.{◌≡◌, refl, subst}
use Rattle.std.specs.Prelude.{⊤}
use Rattle.std.proofs.Common.{sym, ◌∙◌, arith, Result, Ok, Err}
use Rattle.std.specs.Prelude.{Bool, ℕ, suc, ℤ, length, ltb}
use Rattle.std.proofs.Math.Bool.{true, false, cond}
use mathlib.Core.List.{List, [], ◌∷◌}
use Rattle.bitstream.specs.Stream.{Parsed, ok, short, bad, unpack}
use Rattle.settings.specs.declared.Settings.{Settings}
use Rattle.refusals.specs.declared.Refusal.{Refusal}
use Rattle.refusals.specs.declared.Refusal.TheVariants.{IllegalSetting, SampleOutOfRange, WrongCount, HouseLimit, ShortArea, NoRoom, BodyEnds, BadCodeword, AfterEnd}
use Rattle.refusals.specs.Refusals.{number}
use Rattle.refusals.specs.Tests.{Test, first_hit}
use Rattle.settings.specs.Checks.{check_pack}
use Rattle.refusals.specs.Reading.{Read, refused}
use Rattle.predictor.specs.Differences.{image_of}
use Rattle.header.specs.Read.{Header, read_header}
use Rattle.body.specs.Order.{Place}
use Rattle.body.specs.Body.{mapped_off, restored, read_body}
use Rattle.cube.specs.File.{file, length_answer, packed}
use Rattle.cube.specs.Open.{Lent, at_end, behind_header, opened_bits, opened}
use Rattle.refusals.specs.Calls.{among, length_refuses, pack_refuses, open_refuses, look_refuses}
use Rattle.cube.specs.ValueLaws.{Refuses, got_refuses, refused_refuses, Tests, tested, chained, header_refuses}

-- a refusal's number stands in the list
abbrev pub Listed : List ℕ → Refusal → Type 0
Listed l w = among l (number w) ≡ true

-- ---- pack and length

module _ (Q : Refusal → Type 0) where
  pub hit_tests : (ts : List Test) (w : Refusal) → Tests Q ts → first_hit ts ≡ Err w → Q w
  unfolding first_hit
  hit_tests [] w h e = let z : ◌≡◌ {A = ℕ} 0 1 = cc in absurd (omega arith)
  hit_tests (t ∷ ts) w h e = go t.fails (hit_tests ts w h.1) e
    where
      go : (b : Bool) → (first_hit ts ≡ Err w → Q w) → cond b (Err t.refusal) (first_hit ts) ≡ Err w → Q w
      go true f q = let k : t.refusal ≡ w = cc in subst Q k h.0
      go false f q = f q

module _ (S : Settings) (tables samples : List ℤ) (scratch : ℕ) where
  -- the writer's tests carry 1, 4, 3, 5, 1 and 2
  length_refuses_lem : (Q : Refusal → Type 0) → Q IllegalSetting → Q HouseLimit → Q WrongCount → Q ShortArea → ((n : ℕ) → Q (SampleOutOfRange n))
      → (w : Refusal) → length_answer S tables samples scratch ≡ Err w → Q w
  unfolding length_answer check_pack
  length_refuses_lem Q q1 q4 q3 q5 q2 w e = go (check_pack S tables samples scratch) refl
    where
      go : (x : Result ⊤ Refusal) → check_pack S tables samples scratch ≡ x → Q w
      go (Ok tt) p =
          let k : length_answer S tables samples scratch ≡ Ok (length (file S tables samples)) = rw p in
          let z : ◌≡◌ {A = ℕ} 0 1 = cc in
          absurd (omega arith)
      go (Err v) p =
          let k : length_answer S tables samples scratch ≡ Err v = rw p in
          let m : v ≡ w = cc in
          subst Q m (hit_tests Q _ v (q1, (q4, (q3, (q5, (q1, (q2 _, tt)))))) p)

  pub length_listed : (w : Refusal) → length_answer S tables samples scratch ≡ Err w → Listed length_refuses w
  unfolding among number
  length_listed = length_refuses_lem (Listed length_refuses) refl refl refl refl (λ n. refl)

  pub packed_listed : (room : ℕ) (w : Refusal) → packed S tables samples scratch room ≡ Err w → Listed pack_refuses w
  unfolding packed among number
  packed_listed room w e = go (length_answer S tables samples scratch) refl
    where
      by_room : (n : ℕ) (b : Bool) → cond b (Err (NoRoom n)) (Ok n) ≡ Err w → Listed pack_refuses w
      by_room n true q = let k : NoRoom n ≡ w = cc in subst (Listed pack_refuses) k refl
      by_room n false q = let z : ◌≡◌ {A = ℕ} 0 1 = cc in absurd (omega arith)

      go : (x : Result ℕ Refusal) → length_answer S tables samples scratch ≡ x → Listed pack_refuses w
      go (Ok n) p =
          let k : packed S tables samples scratch room ≡ cond (ltb room n) (Err (NoRoom n)) (Ok n) = rw p in
          by_room n (ltb room n) (sym k ∙ e)
      go (Err v) p =
          let k : packed S tables samples scratch room ≡ Err v = rw p in
          let m : v ≡ w = cc in
          subst (Listed pack_refuses) m (length_refuses_lem (Listed pack_refuses) refl refl refl refl (λ n. refl) v p)

-- ---- open and look

module _ (Q : Refusal → Type 0) (ends : (n : ℕ) → Q (BodyEnds n)) (bads : (n : ℕ) → Q (BadCodeword n)) (after : (n : ℕ) → Q (AfterEnd n)) where
  body_refuses : (S : Settings) (tables : List ℤ) (n : ℕ) (ps : List Place) (x : List ℤ) (l : List Bool) → Refuses Q (read_body S tables n ps x l)
  unfolding read_body
  body_refuses S tables n [] x l = got_refuses Q x l
  body_refuses S tables n (p ∷ ps) x l = go (λ y r. body_refuses S tables (suc n) ps y r) (mapped_off S tables (image_of S.image x) p l)
    where
      go : ((y : List ℤ) (r : List Bool) → Refuses Q (read_body S tables (suc n) ps y r)) → (d : Parsed)
          → Refuses Q {A = List ℤ} (elim d as (λ _. Read (List ℤ)) [ ok v r ↦ read_body S tables (suc n) ps (restored S tables p x v) r | short ↦ refused (BodyEnds n) | bad ↦ refused (BadCodeword n) ])
      go rec (ok v r) = rec (restored S tables p x v) r
      go rec short = refused_refuses Q (BodyEnds n) (ends n)
      go rec bad = refused_refuses Q (BadCodeword n) (bads n)

  end_refuses : (h : Header) (end : ℕ) (x : List ℤ) (l : List Bool) → Refuses Q (at_end h end x l)
  unfolding at_end
  end_refuses h end x l = tested Q _ (ends _, (after _, tt)) (got_refuses Q _ _)

  behind_refuses : Q WrongCount → Q ShortArea → (lent : Lent) (size : ℕ) (h : Header) (l : List Bool) → Refuses Q (behind_header lent size h l)
  unfolding behind_header
  behind_refuses q3 q5 lent size h l = tested Q _ (q3, (q5, tt)) (chained Q (body_refuses h.settings h.tables 0 _ _ l) (λ x r _. end_refuses h _ x r))

pub opened_listed : (lent : Lent) (bytes : List ℕ) (w : Refusal) → opened lent bytes ≡ refused w → Listed open_refuses w
unfolding opened opened_bits among number
opened_listed lent bytes =
    (chained (Listed open_refuses) (header_refuses (Listed open_refuses) refl refl refl refl (unpack bytes))
    (λ h l _. behind_refuses (Listed open_refuses) (λ n. refl) (λ n. refl) (λ n. refl) refl refl lent _ h l)).said

pub header_listed : (l : List Bool) (w : Refusal) → read_header l ≡ refused w → Listed look_refuses w
unfolding among number
header_listed l = (header_refuses (Listed look_refuses) refl refl refl refl l).said

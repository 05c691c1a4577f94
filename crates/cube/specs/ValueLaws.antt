-- Which refusals the reader's parts give: those of the header touch nothing, and every value is at most the house limit on samples.
use Rattle.std.specs.Prelude.{◌≡◌, refl, Bool, cond, ℕ, suc, ◌+◌, ◌*◌, ◌≤◌, ℤ, length, Err}
use Rattle.std.proofs.Common.{subst, arith}
use Rattle.std.proofs.Math.Bool.{true, false}
use mathlib.Core.List.{List, [], ◌∷◌}
use Rattle.bitstream.specs.Stream.{Parsed, ok, short, bad, unpack}
use Rattle.refusals.specs.declared.Refusal.{Refusal}
use Rattle.refusals.specs.declared.Refusal.TheVariants.{EndsInHeader, IllegalField, HouseLimit, BlockCoder, BodyEnds, BadCodeword}
use Rattle.refusals.specs.Refusals.{value, clears}
use Rattle.refusals.specs.Tests.{Test, first_hit}
use Rattle.refusals.specs.Reading.{Read, got, refused, and_then, unless}
use Rattle.settings.specs.declared.Image.{Image}
use Rattle.settings.specs.declared.Predictor.{Predictor}
use Rattle.settings.specs.declared.Coder.{Coder}
use Rattle.settings.specs.declared.Settings.{Settings}
use Rattle.settings.specs.Legal.{sample_count}
use Rattle.settings.specs.Limits.{most_samples}
use Rattle.settings.specs.LegalLaws.{legal_settings, limited_facts}
use Rattle.predictor.specs.Differences.{image_of}
use Rattle.header.specs.Read.{read_image, read_predictor, read_coder, read_table, read_weights, read_accumulators, Header, read_header}
use Rattle.header.specs.HeaderLaws.{read_header_lem}
use Rattle.body.specs.Order.{Place, order}
use Rattle.body.specs.OrderLaws.{length_order}
use Rattle.body.specs.Body.{mapped_off, restored, read_body}
use Rattle.cube.specs.Open.{Lent, at_end, behind_header, opened_bits, opened}

-- Q holds of a refusal there
pub record Refuses (Q : Refusal → Type 0) {A : Type 0} (x : Read A) : Type 0 where
  pub said : (w : Refusal) → x ≡ refused w → Q w

module _ (Q : Refusal → Type 0) where
  pub got_refuses : {A : Type 0} (a : A) (l : List Bool) → Refuses Q (got a l)
  got_refuses a l = record { said = λ w e. let z : ◌≡◌ {A = ℕ} 0 1 = cc in absurd (omega arith) }

  pub refused_refuses : {A : Type 0} (v : Refusal) → Q v → Refuses Q {A = A} (refused v)
  refused_refuses v h = record { said = λ w e. let k : v ≡ w = cc in subst Q k h }

  -- Q holds of every test's refusal
  abbrev pub Tests : List Test → Type 0
  Tests [] = Unit {0}
  Tests (t ∷ ts) = Q t.refusal × Tests ts

  pub tested : {A : Type 0} (ts : List Test) {x : Read A} → Tests ts → Refuses Q x → Refuses Q (unless (first_hit ts) x)
  unfolding first_hit
  tested [] h k = k
  tested {A} (t ∷ ts) {x} h k = go t.fails (tested ts h.1 k)
    where
      go : (b : Bool) → Refuses Q (unless (first_hit ts) x) → Refuses Q (unless (cond b (Err t.refusal) (first_hit ts)) x)
      go true m = refused_refuses t.refusal h.0
      go false m = m

  pub chained : {A B : Type 0} {x : Read A} {f : A → List Bool → Read B} → Refuses Q x → ((a : A) (l : List Bool) → x ≡ got a l → Refuses Q (f a l)) → Refuses Q (and_then x f)
  chained {x = got a l} h k = k a l refl
  chained {x = refused w} h k = refused_refuses w (h.said w refl)

  either : {A : Type 0} (b : Bool) (x y : Read A) → Refuses Q x → Refuses Q y → Refuses Q (cond b x y)
  either true x y h k = h
  either false x y h k = k

  -- the header refuses with 7, 8, 12 and 4 alone
  module _ (q7 : Q EndsInHeader) (q8 : Q IllegalField) (q12 : Q BlockCoder) (q4 : Q HouseLimit) where
    image_refuses : (l : List Bool) → Refuses Q (read_image l)
    unfolding read_image
    image_refuses l = tested _ (q7, tt) (tested _ (q8, (q12, (q4, tt))) (got_refuses _ _))

    predictor_refuses : (I : Image) (l : List Bool) → Refuses Q (read_predictor I l)
    unfolding read_predictor
    predictor_refuses I l = tested _ (q7, tt) (tested _ (q8, tt) (got_refuses _ _))

    coder_refuses : (I : Image) (l : List Bool) → Refuses Q (read_coder I l)
    unfolding read_coder
    coder_refuses I l = tested _ (q7, tt) (tested _ (q8, tt) (got_refuses _ _))

    table_refuses : (m : ℕ) (test : List Bool → Bool) (l : List Bool) → Refuses Q (read_table m test l)
    unfolding read_table
    table_refuses m test l = tested _ (q7, tt) (tested _ (q8, tt) (got_refuses _ _))

    pub header_refuses : (l : List Bool) → Refuses Q (read_header l)
    unfolding read_header read_weights read_accumulators
    header_refuses l =
        chained (image_refuses l) (λ (I : Image) l₁ _.
        chained (predictor_refuses I l₁) (λ (P : Predictor) l₂ _.
        chained (either P.custom _ _ (table_refuses _ _ l₂) (got_refuses _ _)) (λ w l₃ _.
        chained (coder_refuses I l₃) (λ (C : Coder) l₄ _.
        chained (either C.tabled _ _ (table_refuses _ _ l₄) (got_refuses _ _)) (λ a l₅ _. got_refuses _ _)))))

-- a header that is refused touches nothing
pub header_keeps : (l : List Bool) (w : Refusal) → read_header l ≡ refused w → clears w ≡ false
unfolding clears
header_keeps l = (header_refuses (λ w. clears w ≡ false) refl refl refl refl l).said

-- ---- values

-- a refusal there has a value of at most n
abbrev pub Most : ℕ → Refusal → Type 0
Most n w = value w ≤ n

wider : {A : Type 0} {m n : ℕ} {x : Read A} → m ≤ n → Refuses (Most m) x → Refuses (Most n) x
wider h k = record { said = λ w e. let l = k.said w e in omega arith }

counted : (I : Image) → I.nx * I.ny * I.nz ≤ most_samples → sample_count I ≤ most_samples
unfolding sample_count
counted I h = h

-- a body of values of ranks n, n + 1, ..
body_within : (S : Settings) (tables : List ℤ) (n : ℕ) (ps : List Place) (x : List ℤ) (l : List Bool) → Refuses (Most (n + length ps)) (read_body S tables n ps x l)
unfolding read_body value
body_within S tables n [] x l = got_refuses (Most (n + 0)) x l
body_within S tables n (p ∷ ps) x l = go (λ y r. body_within S tables (suc n) ps y r) (mapped_off S tables (image_of S.image x) p l)
  where
    go : ((y : List ℤ) (r : List Bool) → Refuses (Most (suc n + length ps)) (read_body S tables (suc n) ps y r)) → (d : Parsed)
        → Refuses (Most (n + suc (length ps))) {A = List ℤ} (elim d as (λ _. Read (List ℤ)) [ ok v r ↦ read_body S tables (suc n) ps (restored S tables p x v) r | short ↦ refused (BodyEnds n) | bad ↦ refused (BadCodeword n) ])
    go rec (ok v r) = wider (omega arith) (rec (restored S tables p x v) r)
    go rec short = refused_refuses (Most (n + suc (length ps))) (BodyEnds n) (omega arith)
    go rec bad = refused_refuses (Most (n + suc (length ps))) (BadCodeword n) (omega arith)

end_within : (h : Header) (end : ℕ) (x : List ℤ) (l : List Bool) → Refuses (Most (sample_count h.settings.image)) (at_end h end x l)
unfolding at_end value
end_within h end x l = tested (Most (sample_count h.settings.image)) _ (omega arith, (omega arith, tt)) (got_refuses _ _ _)

-- every refusal of opening
pub opened_within : (lent : Lent) (bytes : List ℕ) → Refuses (Most most_samples) (opened lent bytes)
unfolding opened opened_bits behind_header value
opened_within lent bytes =
    chained (Most most_samples) (header_refuses (Most most_samples) (omega arith) (omega arith) (omega arith) (omega arith) (unpack bytes)) (λ h l e.
    let k = read_header_lem (unpack bytes) l h e in
    let few = (limited_facts h.settings.image k.limited).few_samples in
    let n : length (order h.settings.image) ≡ h.settings.image.nx * h.settings.image.ny * h.settings.image.nz =
    length_order h.settings.image (λ q. ((legal_settings h.settings k.legal).image.interleaved q).0) in
    tested (Most most_samples) _ (omega arith, (omega arith, tt))
    (chained (Most most_samples)
    (wider {m = 0 + length (order h.settings.image)} (omega arith) (body_within h.settings h.tables 0 (order h.settings.image) _ l))
    (λ x r _. wider (counted h.settings.image few) (end_within h _ x r))))

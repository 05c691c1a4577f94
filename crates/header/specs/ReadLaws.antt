-- Each part of the header read: what was written is read, and what is read was written by legal settings.
use Rattle.std.specs.Prelude.{◌≡◌, refl, Bool, true, false, not, cond, ◌&&◌, List, [], ◌∷◌, ◌++◌, ℕ, ◌+◌, ◌-◌, ◌*◌, ◌≤◌, ◌<◌, leb, ltb, eqb, ℤ, nat_abs, length, take, drop, Result, Ok, Err, ⊤}
use Rattle.std.proofs.Common.{sym, ap, ap₂, ◌∙◌, append_assoc, arith, ltb-false, le-ltb, leb-true, le-leb, length-append, take-append-drop, take_at, drop_at, length-take-le}
use Rattle.std.proofs.Math.Bool.{and-eq-true_iff}
use Rattle.std.proofs.lemmas.Bool.{false≢true, eqb-false, not-false}
use Rattle.std.proofs.lemmas.List.{length-replicate}
use Rattle.bitstream.specs.Stream.{filling, filled}
use Rattle.bitstream.proofs.Laws.{absurd_path}
use Rattle.refusals.specs.declared.Refusal.TheVariants.{EndsInHeader, IllegalField, HouseLimit, BlockCoder}
use Rattle.refusals.specs.Tests.{Test, ◌⇒◌, first_hit}
use Rattle.refusals.specs.Reading.{Read, got, unless}
use Rattle.refusals.specs.ReadingLaws.{passed}
use Rattle.settings.specs.declared.Image.{Image}
use Rattle.settings.specs.declared.Predictor.{Predictor}
use Rattle.settings.specs.declared.Coder.{Coder}
use Rattle.settings.specs.declared.Settings.{Settings}
use Rattle.settings.specs.Legal.{image_legal, predictor_legal, coder_legal, limited}
use Rattle.settings.specs.LegalLaws.{legal_image, legal_predictor, legal_coder}
use Rattle.settings.specs.Tables.{parameter_slot, entry, backward, component_count, every}
use Rattle.settings.specs.TableLaws.{every_at, every_of}
use Rattle.header.specs.Fields.{fields, split, same}
use Rattle.header.specs.Places.{◌‼◌, coder_type}
use Rattle.header.specs.Parts.{image_fields, image_widths, image_of, predictor_fields, predictor_widths, predictor_of, coder_fields, coder_widths, coder_of, used_image, used_predictor, used_coder, image_bits, predictor_bits, coder_bits}
use Rattle.header.specs.Tables.{weight_table, accumulator_table, components_before, number_at}
use Rattle.header.specs.Write.{weight_part, accumulator_part}
use Rattle.header.specs.Read.{present, read_image, read_predictor, read_coder, read_table, read_weights, read_accumulators}
use Rattle.header.specs.FieldLaws.{same_true, same_refl, split_lt}
use Rattle.header.specs.PartLaws.{length_image, length_predictor, length_coder, image_back, coder_type_back, predictor_back, coder_back, image_written, predictor_written, coder_written, image_legal_used, limited_used, predictor_legal_used, coder_legal_used, image_named, predictor_named, coder_named}
use Rattle.refusals.specs.declared.Refusal.{Refusal}
use Rattle.header.specs.TableLaws.{length_weights, length_accumulators, accumulator_read}

-- ---- one part: n bits that pass a test b and are those of f, then further tests

abbrev part : {A : Type 0} → ℕ → Bool → List Bool → List Test → A → List Bool → Read A
part n b f ts a l = present n l (unless (first_hit (not (b && same (take n l) f) ⇒ IllegalField ∷ ts)) (got a (drop n l)))

part_read : {A : Type 0} (n : ℕ) (b : Bool) (f g : List Bool) (ts : List Test) (a : A) (r : List Bool) → length f ≡ n → b ≡ true → g ≡ f → first_hit ts ≡ (Ok tt)
    → part n b g ts a (f ++ r) ≡ got a r
unfolding first_hit
part_read n b f g ts a r e h q p =
    let long : n ≤ length (f ++ r) = rw (length-append f r) (omega arith) in
    rw (le-ltb (length (f ++ r)) n long, h, q, take_at f r n e, same_refl f, p, drop_at f r n e)

none_failed : {A : Type 0} (a b : A) (l r : List Bool) (c : Result ⊤ Refusal) → unless c (got a l) ≡ got b r → (a ≡ b) × (l ≡ r)
none_failed a b l r (Ok tt) e = (cc, cc)
none_failed a b l r (Err why) e = absurd_path (cc)

record PartIs {A : Type 0} (n : ℕ) (b : Bool) (f : List Bool) (ts : List Test) (a : A) (l : List Bool) (x : A) (r : List Bool) : Type 0 where
  there : n ≤ length l
  test : b ≡ true
  others : unless (first_hit ts) (got a (drop n l)) ≡ got x r
  value : a ≡ x
  same : l ≡ f ++ r

read_part : {A : Type 0} (n : ℕ) (b : Bool) (f : List Bool) (ts : List Test) (a : A) (l : List Bool) (x : A) (r : List Bool) → part n b f ts a l ≡ got x r → PartIs n b f ts a l x r
unfolding first_hit
read_part n b f ts a l x r e =
    let p = passed _ (ltb (length l) n) EndsInHeader [] x r e in
    let q = passed (got a (drop n l)) (not (b && same (take n l) f)) IllegalField ts x r p.1 in
    let k = (and-eq-true_iff b (same (take n l) f)).0 (not-false (b && same (take n l) f) q.0) in
    let o = none_failed a x (drop n l) r (first_hit ts) q.1 in
    record {
      there = ltb-false (length l) n p.0;
      test = k.0;
      others = q.1;
      value = o.0;
      same = sym (take-append-drop n l) ∙ ap₂ (λ (u v : List Bool). u ++ v) (same_true (take n l) f k.1) o.1;
    }

-- ---- the image

pub image_read_lem : (I : Image) (r : List Bool) → image_legal I ≡ true → limited I ≡ true → read_image (fields (image_fields I 0) ++ r) ≡ got (used_image I) r
unfolding read_image first_hit
image_read_lem I r e h =
    let f : List Bool = fields (image_fields I 0) in
    let v : List ℕ = split image_widths (f ++ r) in
    let i : image_of v ≡ used_image I = image_back I 0 r (legal_image I e) in
    let c : v ‼ coder_type ≡ 0 = coder_type_back I 0 r (omega arith) in
    let m : image_legal (image_of v) ≡ true = ap image_legal i ∙ image_legal_used I ∙ e in
    let o : limited (image_of v) ≡ true = ap limited i ∙ limited_used I ∙ h in
    part_read image_bits (image_legal (image_of v)) f (fields (image_fields (image_of v) (v ‼ coder_type))) (eqb (v ‼ coder_type) 1 ⇒ BlockCoder ∷ not (limited (image_of v)) ⇒ HouseLimit ∷ []) (image_of v) r
    (length_image I 0) m (rw (i, c, image_written)) (rw (c, o))
    ∙ ap (λ (x : Image). got x r) i

coder_type_zero : (l : List Bool) → eqb (split image_widths l ‼ coder_type) 1 ≡ false → split image_widths l ‼ coder_type ≡ 0
coder_type_zero l e =
    let k = eqb-false (split image_widths l ‼ coder_type) 1 e in
    omega (arith, split_lt image_widths l coder_type)

pub record ImageIs (I : Image) (l r : List Bool) : Type 0 where
  pub legal : image_legal I ≡ true
  pub limits : limited I ≡ true
  pub used : used_image I ≡ I
  pub same : l ≡ fields (image_fields I 0) ++ r

pub read_image_lem : (l r : List Bool) (I : Image) → read_image l ≡ got I r → ImageIs I l r
unfolding read_image
read_image_lem l r I e =
    let v : List ℕ = split image_widths l in
    let limits : List Test = not (limited (image_of v)) ⇒ HouseLimit ∷ [] in
    let p = read_part image_bits (image_legal (image_of v)) (fields (image_fields (image_of v) (v ‼ coder_type))) (eqb (v ‼ coder_type) 1 ⇒ BlockCoder ∷ limits) (image_of v) l I r e in
    let c = passed (got (image_of v) (drop image_bits l)) (eqb (v ‼ coder_type) 1) BlockCoder limits I r p.others in
    let d = passed (got (image_of v) (drop image_bits l)) (not (limited (image_of v))) HouseLimit [] I r c.1 in
    rw (← p.value) (record {
      legal = p.test;
      limits = not-false (limited (image_of v)) d.0;
      used = image_named v;
      same = p.same ∙ ap (λ (n : ℕ). fields (image_fields (image_of v) n) ++ r) (coder_type_zero l c.0);
    })

-- ---- the predictor

pub predictor_read_lem : (I : Image) (P : Predictor) (r : List Bool) → predictor_legal I P ≡ true → read_predictor (used_image I) (fields (predictor_fields P) ++ r) ≡ got (used_predictor P) r
unfolding read_predictor first_hit
predictor_read_lem I P r e =
    let f : List Bool = fields (predictor_fields P) in
    let v : List ℕ = split predictor_widths (f ++ r) in
    let i : predictor_of v ≡ used_predictor P = predictor_back I P r (legal_predictor I P e) in
    let m : predictor_legal (used_image I) (predictor_of v) ≡ true = ap (predictor_legal (used_image I)) i ∙ predictor_legal_used I P ∙ e in
    part_read predictor_bits (predictor_legal (used_image I) (predictor_of v)) f (fields (predictor_fields (predictor_of v))) [] (predictor_of v) r
    (length_predictor P) m (rw (i, predictor_written)) refl
    ∙ ap (λ (x : Predictor). got x r) i

pub record PredictorIs (I : Image) (P : Predictor) (l r : List Bool) : Type 0 where
  pub legal : predictor_legal I P ≡ true
  pub used : used_predictor P ≡ P
  pub same : l ≡ fields (predictor_fields P) ++ r

pub read_predictor_lem : (I : Image) (l r : List Bool) (P : Predictor) → read_predictor I l ≡ got P r → PredictorIs I P l r
unfolding read_predictor
read_predictor_lem I l r P e =
    let v : List ℕ = split predictor_widths l in
    let p = read_part predictor_bits (predictor_legal I (predictor_of v)) (fields (predictor_fields (predictor_of v))) [] (predictor_of v) l P r e in
    rw (← p.value) (record { legal = p.test; used = predictor_named v; same = p.same })

-- ---- the coder

pub coder_read_lem : (I : Image) (C : Coder) (r : List Bool) → image_legal I ≡ true → coder_legal I C ≡ true → read_coder (used_image I) (fields (coder_fields C) ++ r) ≡ got (used_coder C) r
unfolding read_coder first_hit
coder_read_lem I C r s e =
    let f : List Bool = fields (coder_fields C) in
    let v : List ℕ = split coder_widths (f ++ r) in
    let i : coder_of v ≡ used_coder C = coder_back I C r (legal_image I s) (legal_coder I C e) in
    let m : coder_legal (used_image I) (coder_of v) ≡ true = ap (coder_legal (used_image I)) i ∙ coder_legal_used I C ∙ e in
    part_read coder_bits (coder_legal (used_image I) (coder_of v)) f (fields (coder_fields (coder_of v))) [] (coder_of v) r
    (length_coder C) m (rw (i, coder_written)) refl
    ∙ ap (λ (x : Coder). got x r) i

pub record CoderIs (I : Image) (C : Coder) (l r : List Bool) : Type 0 where
  pub legal : coder_legal I C ≡ true
  pub used : used_coder C ≡ C
  pub same : l ≡ fields (coder_fields C) ++ r

pub read_coder_lem : (I : Image) (l r : List Bool) (C : Coder) → read_coder I l ≡ got C r → CoderIs I C l r
unfolding read_coder
read_coder_lem I l r C e =
    let v : List ℕ = split coder_widths l in
    let p = read_part coder_bits (coder_legal I (coder_of v)) (fields (coder_fields (coder_of v))) [] (coder_of v) l C r e in
    rw (← p.value) (record { legal = p.test; used = coder_named v; same = p.same })

-- ---- a table

pub record TableIs (n : ℕ) (test : List Bool → Bool) (t l r : List Bool) : Type 0 where
  pub long : length t ≡ n
  pub passes : test t ≡ true
  pub same : l ≡ filled 8 t ++ r

pub read_table_lem : (n : ℕ) (test : List Bool → Bool) (l r t : List Bool) → read_table n test l ≡ got t r → TableIs n test t l r
unfolding read_table
read_table_lem n test l r t e =
    let p = read_part (n + filling 8 n) (test (take n l)) (filled 8 (take n l)) [] (take n l) l t r e in
    rw (← p.value) (record { long = length-take-le n l (omega (arith, p.there)); passes = p.test; same = p.same })

length_filled : (t : List Bool) → length (filled 8 t) ≡ length t + filling 8 (length t)
unfolding filled
length_filled t = rw (length-append, length-replicate)

front : (t r : List Bool) → take (length t) (filled 8 t ++ r) ≡ t
unfolding filled
front t r = rw append_assoc (take_at t _ (length t) refl)

pub table_read_lem : (n : ℕ) (test : List Bool → Bool) (t r : List Bool) → length t ≡ n → test t ≡ true → read_table n test (filled 8 t ++ r) ≡ got t r
unfolding read_table first_hit
table_read_lem n test t r s e =
    let l : List Bool = filled 8 t ++ r in
    let k : take n l ≡ t = rw (← s) (front t r) in
    part_read (n + filling 8 n) (test (take n l)) (filled 8 t) (filled 8 (take n l)) [] (take n l) r
    (rw (← s) (length_filled t)) (rw (k, e)) (rw k) refl
    ∙ ap (λ (x : List Bool). got x r) k

-- ---- the table of weights, where there is one

pub weights_read : (S : Settings) (tables : List ℤ) (r : List Bool) → read_weights (used_image S.image) (used_predictor S.predictor) (weight_part S tables ++ r) ≡ got (cond S.predictor.custom (weight_table S.predictor S.image.nz tables) []) r
unfolding read_weights weight_part used_image used_predictor components_before component_count backward
weights_read S tables r = go S.predictor.custom
  where
    P : Predictor
    P = S.predictor

    t : List Bool
    t = weight_table P S.image.nz tables

    go : (b : Bool) → cond b (read_table (cond b P.precision 0 * components_before P S.image.nz) (λ table. true) (cond b (filled 8 t) [] ++ r)) (got [] (cond b (filled 8 t) [] ++ r)) ≡ got (cond b t []) r
    go true = table_read_lem _ (λ table. true) t r (length_weights P S.image.nz tables) refl
    go false = refl

pub record WeightsAre (I : Image) (P : Predictor) (t l r : List Bool) : Type 0 where
  pub long : P.custom ≡ true → length t ≡ P.precision * components_before P I.nz
  pub same : l ≡ cond P.custom (filled 8 t) [] ++ r

pub read_weights_lem : (I : Image) (P : Predictor) (l r t : List Bool) → read_weights I P l ≡ got t r → WeightsAre I P t l r
unfolding read_weights
read_weights_lem I P l r t e = go P.custom refl e
  where
    go : (b : Bool) → P.custom ≡ b → cond b (read_table (P.precision * components_before P I.nz) (λ table. true) l) (got [] l) ≡ got t r → WeightsAre I P t l r
    go true c q = let k = read_table_lem _ (λ table. true) l r t q in record { long = λ _. k.long; same = rw c k.same }
    go false c q = record { long = λ d. absurd (false≢true (sym c ∙ d)); same = rw c (cc) }

-- ---- the table of k', where there is one

pub accumulators_read : (S : Settings) (tables : List ℤ) (r : List Bool) → S.image.depth ≤ 16
    → (S.coder.tabled ≡ true → (z : ℕ) → z < S.image.nz → nat_abs (entry tables z parameter_slot) ≤ S.image.depth - 2)
    → read_accumulators (used_image S.image) (used_coder S.coder) (accumulator_part S tables ++ r) ≡ got (cond S.coder.tabled (accumulator_table S.image.nz tables) []) r
unfolding read_accumulators accumulator_part used_image used_coder
accumulators_read S tables r d h = go S.coder.tabled h
  where
    I : Image
    I = S.image

    t : List Bool
    t = accumulator_table I.nz tables

    test : List Bool → Bool
    test table = every I.nz (λ z. leb (number_at 4 table z) (I.depth - 2))

    go : (b : Bool) → (b ≡ true → (z : ℕ) → z < I.nz → nat_abs (entry tables z parameter_slot) ≤ I.depth - 2)
        → cond b (read_table (4 * I.nz) test (cond b (filled 8 t) [] ++ r)) (got [] (cond b (filled 8 t) [] ++ r)) ≡ got (cond b t []) r
    go true k =
        table_read_lem (4 * I.nz) test t r (length_accumulators I.nz tables)
        (every_of I.nz _ (λ z m. let s = k refl z m in rw (accumulator_read I.nz tables z m (omega arith)) (le-leb _ _ s)))
    go false k = refl

pub record AccumulatorsAre (I : Image) (C : Coder) (t l r : List Bool) : Type 0 where
  pub long : C.tabled ≡ true → length t ≡ 4 * I.nz
  pub most : C.tabled ≡ true → (z : ℕ) → z < I.nz → number_at 4 t z ≤ I.depth - 2
  pub same : l ≡ cond C.tabled (filled 8 t) [] ++ r

pub read_accumulators_lem : (I : Image) (C : Coder) (l r t : List Bool) → read_accumulators I C l ≡ got t r → AccumulatorsAre I C t l r
unfolding read_accumulators
read_accumulators_lem I C l r t e = go C.tabled refl e
  where
    test : List Bool → Bool
    test table = every I.nz (λ z. leb (number_at 4 table z) (I.depth - 2))

    go : (b : Bool) → C.tabled ≡ b → cond b (read_table (4 * I.nz) test l) (got [] l) ≡ got t r → AccumulatorsAre I C t l r
    go true c q =
        let k = read_table_lem (4 * I.nz) test l r t q in
        record { long = λ _. k.long; most = λ _ z h. leb-true _ _ (every_at I.nz _ k.passes z h); same = rw c k.same }
    go false c q = record { long = λ d. absurd (false≢true (sym c ∙ d)); most = λ d z h. absurd (false≢true (sym c ∙ d)); same = rw c (cc) }

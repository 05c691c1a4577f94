-- The two tables both ways: entries written and read off again, bits read off and written again, and the table area with zero in the slots unused.
use Rattle.std.specs.Prelude.{◌≡◌, refl, ◌⊎◌, Bool, true, false, cond, ◌&&◌, List, ◌++◌, ℕ, zero, suc, ◌+◌, ◌-◌, ◌*◌, ◌%◌, ◌^◌, ◌≤◌, ◌<◌, leb, ℤ, pos, negsuc, neg_ℤ, ◌-ℤ◌, length, take, drop}
use Rattle.std.proofs.Common.{sym, ◌∙◌, append_assoc, zero-add, mod-eq_of_lt, mul-add, mul-le-mul_left, arith, length-append, length-drop, take_at, drop_at, drop-drop, length-take-le, pow_pos}
use Rattle.std.proofs.Math.Path.{ap}
use Rattle.std.proofs.Math.Logic.{inl, inr, ⊎_elim}
use Rattle.std.proofs.Math.Bool.{and-true, or-true, and-eq-true_iff}
use borrow.Author.Tests.{ltb-true, ltb-false, lt-ltb, le-ltb, ne_eqb, eqb-true}
use Rattle.std.proofs.Math.Dec.{ltb, eqb, leb-suc-suc}
use Rattle.std.proofs.Math.IntN.{nat_abs}
use Rattle.std.specs.Int.Signed.{le_z, lt_z}
use Rattle.std.proofs.Math.Seq.{take_all}
use Rattle.bitstream.specs.Stream.{bits}
use Rattle.bitstream.proofs.Laws.{length_bits, number_bits, bits_number}
use Rattle.settings.specs.declared.Predictor.{Predictor}
use Rattle.settings.specs.declared.Settings.{Settings}
use Rattle.settings.specs.Lists.{join, one, sum_below}
use Rattle.settings.specs.ListLaws.{sum_below_ext, sum_below_scaled, sum_below_same, sum_below_holds, join_at, join_ext, length_join, length_join_same, get_or_join_same, length_ones, get_or_ones, join_parts}
use Rattle.settings.specs.Tables.{table_stride, parameter_slot, entry, component_count, weight_legal, tables_legal}
use Rattle.settings.specs.LegalLaws.{LegalSettings}
use Rattle.settings.specs.TableLaws.{components_fit, legal_weight, weight_legal_lem, legal_tables, tables_legal_lem}
use Rattle.settings.specs.Truths.{or_cases}
use Rattle.header.specs.FieldLaws.{number_take_lt}
use Rattle.header.specs.Tables.{twos, signed_of, weight_table, accumulator_table, components_before, number_at, used, slots, used_tables, tables_of}

-- ---- two's complement

-- a power of 2 in two halves
halves : (q : ℕ) → 0 < q → 2 ^ q ≡ 2 ^ (q - 1) + 2 ^ (q - 1)
halves q h = let e : q ≡ suc (q - 1) = omega arith in ap (λ (n : ℕ). 2 ^ n) e ∙ omega arith

below_pos : (a b : ℕ) → a < b → pos a -ℤ pos b ≡ negsuc (b - suc a)
below_pos a zero h = absurd (omega arith)
below_pos a (suc b) h = rw (lt-ltb a (suc b) h)

-- the range of q bits at a number from 0 up, and at one below 0
half_pos : (H n : ℕ) → 0 < H → (le_z (neg_ℤ (pos H)) (pos n) && lt_z (pos n) (pos H)) ≡ ltb n H
half_pos zero n h = absurd (omega arith)
half_pos (suc H) n h = refl

half_negsuc : (H n : ℕ) → 0 < H → (le_z (neg_ℤ (pos H)) (negsuc n) && lt_z (negsuc n) (pos H)) ≡ ltb n H
half_negsuc zero n h = absurd (omega arith)
half_negsuc (suc H) n h = and-true (leb n H) ∙ sym (leb-suc-suc n H)

weight_pos : (q n : ℕ) → weight_legal q (pos n) ≡ ltb n (2 ^ (q - 1))
unfolding weight_legal
weight_pos q n = half_pos (2 ^ (q - 1)) n (pow_pos (q - 1))

weight_negsuc : (q n : ℕ) → weight_legal q (negsuc n) ≡ ltb n (2 ^ (q - 1))
unfolding weight_legal
weight_negsuc q n = half_negsuc (2 ^ (q - 1)) n (pow_pos (q - 1))

pub twos_lt : (q : ℕ) (v : ℤ) → 0 < q → weight_legal q v ≡ true → twos q v < 2 ^ q
unfolding twos
twos_lt q (pos n) h e = omega (arith, halves q h, ltb-true n (2 ^ (q - 1)) (sym (weight_pos q n) ∙ e))
twos_lt q (negsuc n) h e = omega (arith, halves q h, ltb-true n (2 ^ (q - 1)) (sym (weight_negsuc q n) ∙ e))

pub signed_twos : (q : ℕ) (v : ℤ) → 0 < q → weight_legal q v ≡ true → signed_of q (twos q v) ≡ v
unfolding twos signed_of
signed_twos q (pos n) h e = rw (sym (weight_pos q n) ∙ e)
signed_twos q (negsuc n) h e =
    let k : n < 2 ^ (q - 1) = ltb-true n (2 ^ (q - 1)) (sym (weight_negsuc q n) ∙ e) in
    let two = halves q h in
    let m : 2 ^ q - suc (2 ^ q - suc n) ≡ n = omega arith in
    rw (le-ltb (2 ^ q - suc n) (2 ^ (q - 1)) (omega arith)) (below_pos (2 ^ q - suc n) (2 ^ q) (omega arith) ∙ ap negsuc m)

twos_pos : (q n : ℕ) → twos q (pos n) ≡ n
unfolding twos
twos_pos q n = refl

twos_negsuc : (q n : ℕ) → twos q (negsuc n) ≡ 2 ^ q - suc n
unfolding twos
twos_negsuc q n = refl

pub twos_signed : (q v : ℕ) → v < 2 ^ q → twos q (signed_of q v) ≡ v
unfolding signed_of
twos_signed q v h = go (ltb v (2 ^ (q - 1)))
  where
    go : (t : Bool) → twos q (cond t (pos v) (pos v -ℤ pos (2 ^ q))) ≡ v
    go true = twos_pos q v
    go false = rw (below_pos v (2 ^ q) h) (twos_negsuc q (2 ^ q - suc v) ∙ omega arith)

pub signed_legal : (q v : ℕ) → 0 < q → v < 2 ^ q → weight_legal q (signed_of q v) ≡ true
unfolding signed_of
signed_legal q v p h = go (ltb v (2 ^ (q - 1))) refl
  where
    go : (t : Bool) → ltb v (2 ^ (q - 1)) ≡ t → weight_legal q (cond t (pos v) (pos v -ℤ pos (2 ^ q))) ≡ true
    go true e = weight_pos q v ∙ e
    go false e =
        let two = halves q p in
        let k = ltb-false v (2 ^ (q - 1)) e in
        rw (below_pos v (2 ^ q) h) (weight_negsuc q (2 ^ q - suc v) ∙ lt-ltb (2 ^ q - suc v) (2 ^ (q - 1)) (omega arith))

-- ---- one entry of a table

pub number_at_lem : (w n v : ℕ) (l r : List Bool) → length l ≡ w * n → number_at w (l ++ (bits w v ++ r)) n ≡ v % 2 ^ w
unfolding number_at
number_at_lem w n v l r e = rw (drop_at l (bits w v ++ r) (w * n) e, take_at (bits w v) r w (length_bits w v), number_bits)

pub number_at_lt : (w : ℕ) (l : List Bool) (n : ℕ) → number_at w l n < 2 ^ w
unfolding number_at
number_at_lt w l n = number_take_lt w (drop (w * n) l)

pub bits_number_at : (w : ℕ) (l : List Bool) (n : ℕ) → w * suc n ≤ length l → bits w (number_at w l n) ≡ take w (drop (w * n) l)
unfolding number_at
bits_number_at w l n h =
    let e : length (take w (drop (w * n) l)) ≡ w = length-take-le w (drop (w * n) l) (rw (length-drop (w * n) l) (omega arith)) in
    rw e at (bits_number (take w (drop (w * n) l)))

-- ---- n numbers of q bits, from number o on

row_written : (q o n : ℕ) (l : List Bool) → q * (o + n) ≤ length l → join (λ i. bits q (number_at q l (o + i))) 0 n ≡ take (q * n) (drop (q * o) l)
row_written q o n l h =
    join_ext (λ i. bits q (number_at q l (o + i))) (λ i. take q (drop (sum_below i (λ j. q)) (drop (q * o) l))) n
    (λ i k.
    let m : q * suc (o + i) ≤ q * (o + n) = mul-le-mul_left q (omega arith) in
    bits_number_at q l (o + i) (omega arith) ∙ rw (sum_below_same q i, drop-drop (q * i) (q * o) l, mul-add))
    ∙ join_parts (λ i. q) (drop (q * o) l) n ∙ rw (sum_below_same q n)

-- ---- a table of q-bit numbers, C z of them for band z

module _ (q : ℕ) (C : ℕ → ℕ) where
  length_numbers : (v : ℕ → ℕ → ℕ) (n : ℕ) → length (join (λ z. join (λ i. bits q (v z i)) 0 (C z)) 0 n) ≡ q * sum_below n C
  length_numbers v n =
      length_join (λ z. join (λ i. bits q (v z i)) 0 (C z)) n
      ∙ sum_below_ext n (λ z. length (join (λ i. bits q (v z i)) 0 (C z))) (λ z. q * C z) (λ z l. length_join_same (λ i. bits q (v z i)) (C z) q (λ i. length_bits q (v z i)))
      ∙ sum_below_scaled q n C

  numbers_read : (v : ℕ → ℕ → ℕ) (n z i : ℕ) → z < n → i < C z → number_at q (join (λ z. join (λ i. bits q (v z i)) 0 (C z)) 0 n) (sum_below z C + i) ≡ v z i % 2 ^ q
  numbers_read v n z i l m =
      let f : ℕ → List Bool = λ z. join (λ i. bits q (v z i)) 0 (C z) in
      let g : ℕ → List Bool = λ i. bits q (v z i) in
      let e : length (join f 0 z ++ join g 0 i) ≡ q * (sum_below z C + i) = rw (length-append (join f 0 z) (join g 0 i), length_numbers v z, length_join_same g i q (λ j. length_bits q (v z j))) (omega arith) in
      let s : join f 0 n ≡ (join f 0 z ++ join g 0 i) ++ (bits q (v z i) ++ (join g (suc i) (C z - suc i) ++ join f (suc z) (n - suc z))) =
      join_at f n z l ∙ ap (λ (x : List Bool). join f 0 z ++ (x ++ join f (suc z) (n - suc z))) (join_at g (C z) i m) ∙ simp append_assoc in
      ap (λ (x : List Bool). number_at q x (sum_below z C + i)) s ∙ number_at_lem q (sum_below z C + i) (v z i) (join f 0 z ++ join g 0 i) _ e

  numbers_written : (l : List Bool) (n : ℕ) → length l ≡ q * sum_below n C → join (λ z. join (λ i. bits q (number_at q l (sum_below z C + i))) 0 (C z)) 0 n ≡ l
  numbers_written l n e =
      join_ext (λ z. join (λ i. bits q (number_at q l (sum_below z C + i))) 0 (C z)) (λ z. take (q * C z) (drop (sum_below z (λ y. q * C y)) l)) n
      (λ z h.
      let m : q * (sum_below z C + C z) ≤ q * sum_below n C = mul-le-mul_left q (sum_below_holds n z C h) in
      row_written q (sum_below z C) (C z) l (omega arith) ∙ rw (sum_below_scaled q z C))
      ∙ join_parts (λ z. q * C z) l n ∙ take_all (sum_below n (λ z. q * C z)) l (rw (sum_below_scaled q n C) (omega arith))

-- ---- the table area

pub length_slots : (S : Settings) (f : ℕ → ℕ → ℤ) → length (slots S f) ≡ table_stride * S.image.nz
unfolding slots
length_slots S f =
    length_join_same (λ z. join (λ i. one (cond (used S z i) (f z i) (pos 0))) 0 table_stride) S.image.nz table_stride
    (λ z. length_ones (λ i. cond (used S z i) (f z i) (pos 0)) table_stride)

pub entry_slots : (S : Settings) (f : ℕ → ℕ → ℤ) (z i : ℕ) → z < S.image.nz → i < table_stride → entry (slots S f) z i ≡ cond (used S z i) (f z i) (pos 0)
unfolding entry slots
entry_slots S f z i h k =
    get_or_join_same (λ z. join (λ i. one (cond (used S z i) (f z i) (pos 0))) 0 table_stride) S.image.nz table_stride z i (pos 0)
    (λ z. length_ones (λ i. cond (used S z i) (f z i) (pos 0)) table_stride) h k
    ∙ get_or_ones (λ i. cond (used S z i) (f z i) (pos 0)) table_stride i (pos 0) k

pub slots_ext : (S : Settings) (f g : ℕ → ℕ → ℤ) → ((z i : ℕ) → z < S.image.nz → i < table_stride → used S z i ≡ true → f z i ≡ g z i) → slots S f ≡ slots S g
unfolding slots
slots_ext S f g h =
    join_ext (λ z. join (λ i. one (cond (used S z i) (f z i) (pos 0))) 0 table_stride) (λ z. join (λ i. one (cond (used S z i) (g z i) (pos 0))) 0 table_stride) S.image.nz
    (λ z l.
    join_ext (λ i. one (cond (used S z i) (f z i) (pos 0))) (λ i. one (cond (used S z i) (g z i) (pos 0))) table_stride
    (λ i k. ap (λ (x : ℤ). one x) (go (used S z i) (f z i) (g z i) (h z i l k))))
  where
    go : (b : Bool) (x y : ℤ) → (b ≡ true → x ≡ y) → cond b x (pos 0) ≡ cond b y (pos 0)
    go true x y e = e refl
    go false x y e = refl

-- what is read off the area is what was put there
pub entry_used : (S : Settings) (f : ℕ → ℕ → ℤ) (z i : ℕ) → z < S.image.nz → i < table_stride → used S z i ≡ true → entry (slots S f) z i ≡ f z i
entry_used S f z i h k u = entry_slots S f z i h k ∙ rw u

pub slots_again : (S : Settings) (f : ℕ → ℕ → ℤ) → slots S (entry (slots S f)) ≡ slots S f
slots_again S f = slots_ext S (entry (slots S f)) f (entry_used S f)

pub used_tables_again : (S : Settings) (tables : List ℤ) → used_tables S (used_tables S tables) ≡ used_tables S tables
unfolding used_tables
used_tables_again S tables = slots_again S (entry tables)

pub tables_of_used : (S : Settings) (weights accumulators : List Bool) → used_tables S (tables_of S weights accumulators) ≡ tables_of S weights accumulators
unfolding used_tables tables_of
tables_of_used S weights accumulators = slots_again S _

pub length_tables_of : (S : Settings) (weights accumulators : List Bool) → length (tables_of S weights accumulators) ≡ table_stride * S.image.nz
unfolding tables_of
length_tables_of S weights accumulators = length_slots S _

-- ---- the slots used

module _ (S : Settings) (z : ℕ) where
  pub used_weight : (i : ℕ) → S.predictor.custom ≡ true → i < component_count S.predictor z → used S z i ≡ true
  unfolding used
  used_weight i c h = rw (lt-ltb i (component_count S.predictor z) h, c)

  pub used_accumulator : S.coder.tabled ≡ true → used S z parameter_slot ≡ true
  unfolding used
  used_accumulator t = rw (t, or-true)

  -- a slot used holds a weight, or it holds k'
  pub used_cases : (i : ℕ) → used S z i ≡ true → ((S.predictor.custom ≡ true) × (i < component_count S.predictor z)) ⊎ ((S.coder.tabled ≡ true) × (i ≡ parameter_slot))
  unfolding used
  used_cases i u =
      ⊎_elim
      (λ e. let k = (and-eq-true_iff S.predictor.custom (ltb i (component_count S.predictor z))).0 e in inl (k.0, ltb-true i (component_count S.predictor z) k.1))
      (λ e. let k = (and-eq-true_iff S.coder.tabled (eqb i parameter_slot)).0 e in inr (k.0, eqb-true i parameter_slot k.1))
      (or_cases (S.predictor.custom && ltb i (component_count S.predictor z)) (S.coder.tabled && eqb i parameter_slot) u)

-- ---- entries written are read

pub length_weights : (P : Predictor) (nz : ℕ) (tables : List ℤ) → length (weight_table P nz tables) ≡ P.precision * components_before P nz
unfolding weight_table components_before
length_weights P nz tables = length_numbers P.precision (component_count P) (λ z i. twos P.precision (entry tables z i)) nz

pub length_accumulators : (nz : ℕ) (tables : List ℤ) → length (accumulator_table nz tables) ≡ 4 * nz
unfolding accumulator_table
length_accumulators nz tables = length_join_same _ nz 4 (λ z. length_bits 4 (nat_abs (entry tables z parameter_slot)))

weight_read : (P : Predictor) (nz : ℕ) (tables : List ℤ) (z i : ℕ) → z < nz → i < component_count P z → 0 < P.precision → weight_legal P.precision (entry tables z i) ≡ true
    → signed_of P.precision (number_at P.precision (weight_table P nz tables) (components_before P z + i)) ≡ entry tables z i
unfolding weight_table components_before
weight_read P nz tables z i h k p e =
    let q = P.precision in
    let n : number_at q (join (λ z. join (λ i. bits q (twos q (entry tables z i))) 0 (component_count P z)) 0 nz) (sum_below z (component_count P) + i) ≡ twos q (entry tables z i) =
    numbers_read q (component_count P) (λ z i. twos q (entry tables z i)) nz z i h k ∙ mod-eq_of_lt (twos_lt q (entry tables z i) p e) in
    ap (signed_of q) n ∙ signed_twos q (entry tables z i) p e

pub accumulator_read : (nz : ℕ) (tables : List ℤ) (z : ℕ) → z < nz → nat_abs (entry tables z parameter_slot) < 2 ^ 4 → number_at 4 (accumulator_table nz tables) z ≡ nat_abs (entry tables z parameter_slot)
unfolding accumulator_table
accumulator_read nz tables z h k =
    let f : ℕ → List Bool = λ z. bits 4 (nat_abs (entry tables z parameter_slot)) in
    ap (λ (l : List Bool). number_at 4 l z) (join_at f nz z h)
    ∙ number_at_lem 4 z (nat_abs (entry tables z parameter_slot)) (join f 0 z) (join f (suc z) (nz - suc z)) (length_join_same f z 4 (λ j. length_bits 4 (nat_abs (entry tables j parameter_slot))))
    ∙ mod-eq_of_lt k

pub tables_read : (S : Settings) (tables : List ℤ) (weights accumulators : List Bool) → LegalSettings S → tables_legal S tables ≡ true
    → (S.predictor.custom ≡ true → weights ≡ weight_table S.predictor S.image.nz tables)
    → (S.coder.tabled ≡ true → accumulators ≡ accumulator_table S.image.nz tables)
    → tables_of S weights accumulators ≡ used_tables S tables
unfolding tables_of used_tables
tables_read S tables weights accumulators l e w a =
    slots_ext S _ (entry tables)
    (λ z i h k u.
    let b = legal_tables S tables e z h in
    ⊎_elim
    (λ c.
    let few = components_fit S.predictor z l.predictor.bands_most in
    let v = b.weights c.0 i c.1 in
    rw (ne_eqb i parameter_slot (λ q. omega (arith, c.1)), w c.0)
    (weight_read S.predictor S.image.nz tables z i h c.1 (omega (arith, (l.predictor.precise c.0).0)) (weight_legal_lem S.predictor.precision (entry tables z i) v.least v.most)))
    (λ c.
    let v = b.accumulator c.0 in
    rw (c.1, a c.0) (ap pos (accumulator_read S.image.nz tables z h (omega (arith, v.most, l.image.depth_most))) ∙ sym v.is))
    (used_cases S z i u))

-- ---- bits read are written

module _ (S : Settings) (few : S.predictor.bands ≤ 15) where
  -- slot i of the weights of band z is in the area, and is not that of k'
  weight_slot : (f : ℕ → ℕ → ℤ) (z i : ℕ) → z < S.image.nz → S.predictor.custom ≡ true → i < component_count S.predictor z → (entry (slots S f) z i ≡ f z i) × (eqb i parameter_slot ≡ false)
  weight_slot f z i h c k =
      let m = components_fit S.predictor z few in
      (entry_used S f z i h (omega arith) (used_weight S z i c k), ne_eqb i parameter_slot (λ q. omega arith))

  accumulator_slot : (f : ℕ → ℕ → ℤ) (z : ℕ) → z < S.image.nz → S.coder.tabled ≡ true → entry (slots S f) z parameter_slot ≡ f z parameter_slot
  accumulator_slot f z h t = entry_used S f z parameter_slot h (omega arith) (used_accumulator S z t)

  weight_of : (weights accumulators : List Bool) (z i : ℕ) → z < S.image.nz → S.predictor.custom ≡ true → i < component_count S.predictor z
      → entry (tables_of S weights accumulators) z i ≡ signed_of S.predictor.precision (number_at S.predictor.precision weights (components_before S.predictor z + i))
  unfolding tables_of
  weight_of weights accumulators z i h c k = let e = weight_slot _ z i h c k in e.0 ∙ rw e.1

  accumulator_of : (weights accumulators : List Bool) (z : ℕ) → z < S.image.nz → S.coder.tabled ≡ true → entry (tables_of S weights accumulators) z parameter_slot ≡ pos (number_at 4 accumulators z)
  unfolding tables_of
  accumulator_of weights accumulators z h t = accumulator_slot _ z h t

  pub weights_written : (weights accumulators : List Bool) → S.predictor.custom ≡ true → length weights ≡ S.predictor.precision * components_before S.predictor S.image.nz
      → weight_table S.predictor S.image.nz (tables_of S weights accumulators) ≡ weights
  unfolding weight_table components_before
  weights_written weights accumulators c e =
      let q = S.predictor.precision in
      let C = component_count S.predictor in
      join_ext _ (λ z. join (λ i. bits q (number_at q weights (sum_below z C + i))) 0 (C z)) S.image.nz
      (λ z h. join_ext _ (λ i. bits q (number_at q weights (sum_below z C + i))) (C z)
      (λ i k. ap (bits q) (ap (twos q) (weight_of weights accumulators z i h c k) ∙ twos_signed q _ (number_at_lt q weights (sum_below z C + i)))))
      ∙ numbers_written q C weights S.image.nz e

  pub accumulators_written : (weights accumulators : List Bool) → S.coder.tabled ≡ true → length accumulators ≡ 4 * S.image.nz
      → accumulator_table S.image.nz (tables_of S weights accumulators) ≡ accumulators
  unfolding accumulator_table
  accumulators_written weights accumulators t e =
      join_ext _ (λ z. bits 4 (number_at 4 accumulators (0 + z))) S.image.nz
      (λ z h. ap (bits 4) (ap nat_abs (accumulator_of weights accumulators z h t) ∙ rw (zero-add z)))
      ∙ row_written 4 0 S.image.nz accumulators (omega arith) ∙ take_all (4 * S.image.nz) accumulators (omega arith)

-- ---- and what is read is legal

pub tables_of_legal : (S : Settings) (weights accumulators : List Bool) → LegalSettings S
    → (S.coder.tabled ≡ true → (z : ℕ) → z < S.image.nz → number_at 4 accumulators z ≤ S.image.depth - 2)
    → tables_legal S (tables_of S weights accumulators) ≡ true
tables_of_legal S weights accumulators l a =
    tables_legal_lem S (tables_of S weights accumulators)
    (λ z h. record {
      weights = λ c i k.
          let q = S.predictor.precision in
          legal_weight q _
          (ap (weight_legal q) (weight_of S l.predictor.bands_most weights accumulators z i h c k)
          ∙ signed_legal q _ (omega (arith, (l.predictor.precise c).0)) (number_at_lt q weights _));
      accumulator = λ t. rw (accumulator_of S l.predictor.bands_most weights accumulators z h t) (record { is = refl; most = a t z h });
    })

-- ---- the slots unused are not looked at

module _ (S : Settings) (few : S.predictor.bands ≤ 15) (tables : List ℤ) where
  weight_kept : (z i : ℕ) → z < S.image.nz → S.predictor.custom ≡ true → i < component_count S.predictor z → entry (used_tables S tables) z i ≡ entry tables z i
  unfolding used_tables
  weight_kept z i h c k = (weight_slot S few (entry tables) z i h c k).0

  accumulator_kept : (z : ℕ) → z < S.image.nz → S.coder.tabled ≡ true → entry (used_tables S tables) z parameter_slot ≡ entry tables z parameter_slot
  unfolding used_tables
  accumulator_kept z h t = accumulator_slot S few (entry tables) z h t

  pub weights_used : S.predictor.custom ≡ true → weight_table S.predictor S.image.nz (used_tables S tables) ≡ weight_table S.predictor S.image.nz tables
  unfolding weight_table
  weights_used c =
      join_ext _ _ S.image.nz
      (λ z h. join_ext _ _ (component_count S.predictor z) (λ i k. ap (λ (v : ℤ). bits S.predictor.precision (twos S.predictor.precision v)) (weight_kept z i h c k)))

  pub accumulators_used : S.coder.tabled ≡ true → accumulator_table S.image.nz (used_tables S tables) ≡ accumulator_table S.image.nz tables
  unfolding accumulator_table
  accumulators_used t = join_ext _ _ S.image.nz (λ z h. ap (λ (v : ℤ). bits 4 (nat_abs v)) (accumulator_kept z h t))

  pub entries_kept_legal : tables_legal S tables ≡ true → tables_legal S (used_tables S tables) ≡ true
  entries_kept_legal e =
      tables_legal_lem S (used_tables S tables)
      (λ z h.
      let b = legal_tables S tables e z h in
      record {
        weights = λ c i k. rw (weight_kept z i h c k) (b.weights c i k);
        accumulator = λ t. rw (accumulator_kept z h t) (b.accumulator t);
      })

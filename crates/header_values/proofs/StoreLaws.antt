-- The slots of the table area: each is a number of a table that stands in the file, and they are laid one behind the other.
use mathlib.Core.Path.{◌≡◌, refl, sym, ap, ◌∙◌, subst}
use mathlib.Core.Logic.{◌≢◌, ⊎_elim}
use mathlib.Core.Bool.{Bool, true, false, cond, ◌&&◌}
use mathlib.Core.List.{List, [], ◌++◌, append_assoc}
use Prim.Native.Nat.{ℕ, zero, suc, ◌+◌, ◌-◌, ◌*◌, ◌^◌, ◌≤◌, ◌<◌}
use native.Mathlib.Nat.{mul-le-mul_left}
use native.Mathlib.Omega.{arith}
use borrow.Author.Tests.{lt-ltb, le-ltb, ne_eqb}
use lib.Dec.{ltb, eqb}
use lib.IntN.{ℤ, pos, ◌-ℤ◌}
use lib.ListN.{length, take, drop, get_or, length-append, length-drop}
use lib.Seq.{take_at, drop_at, take-add, drop-drop, take_all, length-take-le}
use Rattle.std.proofs.lemmas.Bool.{and_left, and_right, or_from}
use Rattle.std.proofs.lemmas.List.{ext_get_or, get_or-take, get_or-drop}
use borrow.Rule.Slice.PartMut.{put_mid}
use mir.Syntax.{w32}
use mir.Val.{SFits, to_z, of_z}
use mir.Facts.{to_z_pos, to_z-of_z}
use Rattle.bitstream.specs.Stream.{number, zeros, filling, filled}
use Rattle.bitstream.proofs.Laws.{absurd_path}
use Rattle.refusals.specs.Reading.{Read, got}
use Rattle.settings.specs.declared.Settings.{Settings}
use Rattle.settings.specs.ListLaws.{sum_below_holds}
use Rattle.settings.specs.Limits.{most_components, most_weight_bits, most_parameter_bits}
use Rattle.settings.specs.LegalLaws.{legal_predictor}
use Rattle.settings.specs.Tables.{table_stride, parameter_slot, entry, component_count}
use Rattle.settings.specs.TableLaws.{components_fit}
use Rattle.header.specs.Parts.{image_bits, predictor_end, fixed_bits, coder_bits}
use Rattle.header.specs.Tables.{signed_of, number_at, components_before, used, tables_of}
use Rattle.header.specs.TableLaws.{entry_slots, used_weight, used_accumulator, used_cases, length_tables_of}
use Rattle.header.specs.Read.{read_image, read_predictor, read_weights, read_coder, read_accumulators, Header, read_header}
use Rattle.header.specs.ReadLaws.{read_weights_lem, read_accumulators_lem}
use Rattle.header.specs.HeaderLaws.{on_got}
use Rattle.header.specs.Sizes.{weights_size, weight_bits}
use Rattle.header_values.specs.Storing.{Storing, Stored, AccumulatorsDone, BandStored, slot_in, laid}
use Rattle.header_values.proofs.Positions.{PredictorFacts, image_got, predictor_got, weights_got, coder_got, header_got, coder_facts, number_in_file}
use Rattle.header.specs.SizeLaws.{no_components, more_components, components_most, precision_most, bits_most}
use Rattle.header.proofs.Signs.{small_power}

-- ---- a header that was read: each of its parts

same_behind : {A : Type 0} {x : Read A} {a b : A} {l m : List Bool} → x ≡ got a l → x ≡ got b m → l ≡ m
same_behind e f = cc

same_value : {A : Type 0} {x : Read A} {a b : A} {l m : List Bool} → x ≡ got a l → x ≡ got b m → a ≡ b
same_value e f = cc

pub parts_done : (F l : List Bool) (h : Header) → read_header F ≡ got h l → AccumulatorsDone F h.settings (predictor_end + weights_size h.settings.image h.settings.predictor + coder_bits)
unfolding read_header
parts_done F l h e =
    on_got (read_image F) _ h l e (λ I l₁ i e₁.
    let di = image_got F l₁ I i in
    let q₁ : l₁ ≡ drop image_bits F = same_behind i di.image in
    on_got (read_predictor I l₁) _ h l e₁ (λ P l₂ p e₂.
    let p' : read_predictor I (drop image_bits F) ≡ got P l₂ = subst (λ (x : List Bool). read_predictor I x ≡ got P l₂) q₁ p in
    let dp = predictor_got F I P l₂ di p' in
    let q₂ : l₂ ≡ drop predictor_end F = same_behind p' dp.predictor in
    on_got (read_weights I P l₂) _ h l e₂ (λ weights l₃ w e₃.
    let w' : read_weights I P (drop predictor_end F) ≡ got weights l₃ = subst (λ (x : List Bool). read_weights I P x ≡ got weights l₃) q₂ w in
    let dw = weights_got F I P weights l₃ dp w' in
    let q₃ : l₃ ≡ drop (predictor_end + weights_size I P) F = same_behind w' dw.weights in
    on_got (read_coder I l₃) _ h l e₃ (λ C l₄ c e₄.
    let S : Settings = record { image = I; predictor = P; coder = C } in
    let c' : read_coder I (drop (predictor_end + weights_size I P) F) ≡ got C l₄ = subst (λ (x : List Bool). read_coder I x ≡ got C l₄) q₃ c in
    let dc = coder_got F S (predictor_end + weights_size I P) l₄ dw c' in
    let q₄ : l₄ ≡ drop (predictor_end + weights_size I P + coder_bits) F = same_behind c' (subst (λ (n : ℕ). read_coder I (drop n F) ≡ got C (drop (predictor_end + weights_size I P + coder_bits) F)) dc.before.place dc.coder) in
    on_got (read_accumulators I C l₄) _ h l e₄ (λ accumulators l₅ a e₅.
    let a' : read_accumulators I C (drop (predictor_end + weights_size I P + coder_bits) F) ≡ got accumulators l₅ = subst (λ (x : List Bool). read_accumulators I C x ≡ got accumulators l₅) q₄ a in
    let T : Header = record { settings = S; tables = tables_of S weights accumulators } in
    let g : got T l₅ ≡ got h l = e₅ in
    let q : T ≡ h = cc in
    subst (λ (x : Header). AccumulatorsDone F x.settings (predictor_end + weights_size x.settings.image x.settings.predictor + coder_bits)) q
    (record { before = dc; table = accumulators; behind = l₅; accumulators = a' }))))))

-- ---- the two tables in the file

-- a table with its fill begins with the table
record Starts (t l : List Bool) (n : ℕ) : Type 0 where
  is : t ≡ take n l
  fits : n ≤ length l

starts : (b : Bool) (t l r : List Bool) (n : ℕ) → b ≡ true → length t ≡ n → l ≡ cond b (filled 8 t) [] ++ r → Starts t l n
unfolding filled
starts false t l r n b e s = absurd_path (cc)
starts true t l r n b e s =
    let a : l ≡ t ++ (zeros (filling 8 (length t)) ++ r) = s ∙ append_assoc t (zeros (filling 8 (length t))) r in
    let m : length l ≡ length t + length (zeros (filling 8 (length t)) ++ r) = ap length a ∙ length-append t (zeros (filling 8 (length t)) ++ r) in
    record { is = sym (ap (take n) a ∙ take_at t (zeros (filling 8 (length t)) ++ r) n e); fits = omega arith }

module _ (F : List Bool) (S : Settings) (at : ℕ) (d : AccumulatorsDone F S at) where
  abbrev q : ℕ
  q = S.predictor.precision

  weights_start : S.predictor.custom ≡ true → Starts d.before.before.table (drop predictor_end F) (weight_bits S.image S.predictor)
  weights_start c =
      let w = read_weights_lem S.image S.predictor (drop predictor_end F) _ _ d.before.before.weights in
      starts S.predictor.custom _ _ _ _ c (w.long c) w.same

  accumulators_start : S.coder.tabled ≡ true → Starts d.table (drop at F) (4 * S.image.nz)
  accumulators_start c =
      let a = read_accumulators_lem S.image S.coder (drop at F) _ _ d.accumulators in
      starts S.coder.tabled _ _ _ _ c (a.long c) a.same

  -- the k' of band z
  pub record EntryIn (z : ℕ) : Type 0 where
    pub is : number_at 4 d.table z ≡ number (take 4 (drop (at + 4 * z) F))
    pub room : at + 4 * z + 4 ≤ length F
    pub small : at + 4 * z ≤ fixed_bits + most_weight_bits + 7 + most_parameter_bits

  pub entry_in : (z : ℕ) → S.coder.tabled ≡ true → z < S.image.nz → EntryIn z
  entry_in z c h =
      let s = accumulators_start c in
      let k = coder_facts F S at d.before in
      let m : 4 * S.image.nz ≤ length F - at = subst (λ (n : ℕ). 4 * S.image.nz ≤ n) (length-drop at F) s.fits in
      record {
        is = ap (λ (t : List Bool). number_at 4 t z) s.is ∙ number_in_file F at 4 (4 * S.image.nz) z (omega arith) s.fits;
        room = omega (arith, k.fits);
        small = omega (arith, k.small, k.before.image.bands);
      }

  -- weight i behind the first ones
  pub record WeightAt (i first : ℕ) : Type 0 where
    pub room : predictor_end + q * (first + i) + q ≤ length F
    pub small : q * (first + i) + q ≤ most_weight_bits
    pub few : first + i ≤ most_components
    pub least : 1 ≤ q
    pub most : q ≤ 22

  -- weight i of band z
  pub record WeightIn (z i : ℕ) : Type 0 where
    pub is : number_at q d.before.before.table (components_before S.predictor z + i) ≡ number (take q (drop (predictor_end + q * (components_before S.predictor z + i)) F))
    pub room : predictor_end + q * (components_before S.predictor z + i) + q ≤ length F
    pub small : q * (components_before S.predictor z + i) + q ≤ most_weight_bits
    pub few : components_before S.predictor z + i ≤ most_components
    pub least : 1 ≤ q
    pub most : q ≤ 22

  before_all : (z i : ℕ) → z < S.image.nz → i < component_count S.predictor z → components_before S.predictor z + i < components_before S.predictor S.image.nz
  unfolding components_before
  before_all z i h k = omega (arith, sum_below_holds S.image.nz z (component_count S.predictor) h)

  pub weight_in : (z i : ℕ) → S.predictor.custom ≡ true → z < S.image.nz → i < component_count S.predictor z → WeightIn z i
  weight_in z i c h k =
      let s = weights_start c in
      let p = (coder_facts F S at d.before).before in
      let l = legal_predictor S.image S.predictor p.legal in
      let n : ℕ = components_before S.predictor z + i in
      let N : ℕ = components_before S.predictor S.image.nz in
      let b : suc n ≤ N = before_all z i h k in
      let u : q * suc n ≤ q * N = mul-le-mul_left q b in
      let v : q * n + q ≤ q * N = omega arith in
      let most = precision_most S.image S.predictor p.legal c in
      let all : N ≤ most_components = omega (arith, components_most S.predictor S.image.nz l.bands_most, p.image.bands) in
      let big : q * N ≤ most_weight_bits = bits_most q N most all in
      let m : q * N ≤ length F - predictor_end = subst (λ (x : ℕ). q * N ≤ x) (length-drop predictor_end F) s.fits in
      record {
        is = ap (λ (t : List Bool). number_at q t n) s.is ∙ number_in_file F predictor_end q (q * N) n v s.fits;
        room = omega (arith, p.fits);
        small = omega arith;
        few = omega arith;
        least = omega (arith, (l.precise c).0);
        most = most;
      }

  -- as the code counts the weights before
  pub weight_from : (z i first : ℕ) → S.predictor.custom ≡ true → first ≡ components_before S.predictor z → z < S.image.nz → i < component_count S.predictor z → WeightAt i first
  weight_from z i first c e h k = subst (λ (n : ℕ). WeightAt i n) (sym e) (let w = weight_in z i c h k in record { room = w.room; small = w.small; few = w.few; least = w.least; most = w.most })

  pub components_few : (z : ℕ) → component_count S.predictor z ≤ 18
  components_few z = components_fit S.predictor z (legal_predictor S.image S.predictor (coder_facts F S at d.before).before.legal).bands_most

  -- ---- a slot of the header's tables, off the file

  tables_are : (h : Header) (l : List Bool) → read_header F ≡ got h l → h.tables ≡ tables_of S d.before.before.table d.table
  tables_are h l e = ap (λ (x : Header). x.tables) (same_value e (header_got F S at d.table d.behind d.before d.accumulators))

  pub length_tables : (h : Header) (l : List Bool) → read_header F ≡ got h l → length h.tables ≡ table_stride * S.image.nz
  length_tables h l e = ap length (tables_are h l e) ∙ length_tables_of S _ _

  cond_same : (b : Bool) (x y : ℤ) → (b ≡ true → x ≡ y) → cond b x (pos 0) ≡ cond b y (pos 0)
  cond_same true x y e = e refl
  cond_same false x y e = refl

  slot_of : (z i : ℕ) → z < S.image.nz → i < table_stride → entry (tables_of S d.before.before.table d.table) z i ≡ slot_in F S at (components_before S.predictor z) z i
  unfolding tables_of
  slot_of z i h k =
      entry_slots S _ z i h k
      ∙ cond_same (used S z i) _ _
      (λ u.
      ⊎_elim
      (λ c. rw (ne_eqb i parameter_slot (λ e. omega (arith, c.1, components_few z))) (ap (signed_of q) (weight_in z i c.0 h c.1).is))
      (λ c. rw c.1 (ap pos (entry_in z c.0 h).is))
      (used_cases S z i u))

  pub slot_stored : (h : Header) (l : List Bool) → read_header F ≡ got h l → (z i : ℕ) → z < S.image.nz → i < table_stride → get_or h.tables (table_stride * z + i) (pos 0) ≡ slot_in F S at (components_before S.predictor z) z i
  unfolding entry
  slot_stored h l e z i m k = ap (λ (T : List ℤ). get_or T (table_stride * z + i) (pos 0)) (tables_are h l e) ∙ slot_of z i m k

-- ---- all values laid

pub laid_all : (T first : List ℤ) (n : ℕ) → length T ≡ n → laid T n first ≡ T ++ drop n first
laid_all T first n e = ap (λ (x : List ℤ). x ++ drop n first) (take_all n T (omega arith))

-- ---- a slot by its case

module _ (F : List Bool) (S : Settings) (at first z i : ℕ) where
  abbrev weights : Bool
  weights = S.predictor.custom && ltb i (component_count S.predictor z)

  abbrev entries : Bool
  entries = S.coder.tabled && eqb i parameter_slot

  unused : used S z i ≡ false → pos 0 ≡ slot_in F S at first z i
  unused u = rw u

  pub slot_single : AccumulatorsDone F S at → i ≡ parameter_slot → S.coder.tabled ≡ false → pos 0 ≡ slot_in F S at first z i
  unfolding used
  slot_single d e t = unused (or_from weights entries (and_right S.predictor.custom _ (le-ltb i (component_count S.predictor z) (omega (arith, components_few F S at d z)))) (and_left S.coder.tabled (eqb i parameter_slot) t))

  pub slot_default : i ≢ parameter_slot → S.predictor.custom ≡ false → pos 0 ≡ slot_in F S at first z i
  unfolding used
  slot_default e c = unused (or_from weights entries (and_left S.predictor.custom (ltb i (component_count S.predictor z)) c) (and_right S.coder.tabled _ (ne_eqb i parameter_slot e)))

  pub slot_beyond : i ≢ parameter_slot → component_count S.predictor z ≤ i → pos 0 ≡ slot_in F S at first z i
  unfolding used
  slot_beyond e k = unused (or_from weights entries (and_right S.predictor.custom _ (le-ltb i _ k)) (and_right S.coder.tabled _ (ne_eqb i parameter_slot e)))

  pub slot_accumulator : i ≡ parameter_slot → S.coder.tabled ≡ true → (r : ℤ) → r ≡ pos (number (take 4 (drop (at + 4 * z) F))) → r ≡ slot_in F S at first z i
  slot_accumulator e t r q = q ∙ rw (e, used_accumulator S z t)

  pub slot_weight : i ≢ parameter_slot → S.predictor.custom ≡ true → i < component_count S.predictor z → (r : ℤ)
      → r ≡ signed_of S.predictor.precision (number (take S.predictor.precision (drop (predictor_end + S.predictor.precision * (first + i)) F))) → r ≡ slot_in F S at first z i
  slot_weight e c k r q = q ∙ rw (used_weight S z i c k, ne_eqb i parameter_slot e)

-- ---- two's complement

pub signed_low : (q v : ℕ) → v < 2 ^ (q - 1) → pos v ≡ signed_of q v
unfolding signed_of
signed_low q v h = rw (lt-ltb v (2 ^ (q - 1)) h)

signed_high : (q v : ℕ) → 2 ^ (q - 1) ≤ v → pos v -ℤ pos (2 ^ q) ≡ signed_of q v
unfolding signed_of
signed_high q v h = rw (le-ltb v (2 ^ (q - 1)) h)

-- the difference as the code forms it
pub record Lowering (q v r : ℕ) : Type 0 where
  pub fits : SFits w32 (to_z w32 v -ℤ to_z w32 r)
  pub is : to_z w32 (of_z w32 (to_z w32 v -ℤ to_z w32 r)) ≡ signed_of q v

difference_fits : (v r : ℕ) → v < r → r < 2 ^ 31 → SFits w32 (pos v -ℤ pos r)
difference_fits v zero h k = absurd (omega arith)
difference_fits v (suc r) h k = rw (lt-ltb v (suc r) h) (record { sfits = omega arith })

pub lowering : (q v half r : ℕ) → half ≡ 2 ^ (q - 1) → r ≡ 2 ^ q → q ≤ 22 → v < 2 ^ q → half ≤ v → Lowering q v r
lowering q v half r e f m h k =
    let s : r < 2 ^ 31 = small_power q r f m in
    let f₁ : SFits w32 (pos v -ℤ pos r) = difference_fits v r (omega arith) s in
    let v₁ : v < 2 ^ 31 = omega arith in
    record {
      fits = rw (to_z_pos w32 v₁, to_z_pos w32 s) f₁;
      is = rw (to_z_pos w32 v₁, to_z_pos w32 s) (to_z-of_z f₁ ∙ ap (λ (n : ℕ). pos v -ℤ pos n) f ∙ signed_high q v (omega arith));
    }

-- ---- the slots of band z, each with the value that it is due

pub band_laid : (F : List Bool) (S : Settings) (at first z : ℕ) (begun slots : List ℤ) (n : ℕ) → n ≡ table_stride → AccumulatorsDone F S at → first ≡ components_before S.predictor z → z < S.image.nz → table_stride * S.image.nz ≤ length begun → length slots ≡ table_stride
    → ((i : ℕ) → i < table_stride → get_or slots i (pos 0) ≡ slot_in F S at first z i) → BandStored F z begun (put_mid (table_stride * z) n begun slots)
band_laid F S at first z begun slots n k d c h m l due =
    let a : ℕ = table_stride * z in
    record {
      long = rw (length-append, length-append, length-take-le a begun (omega arith), length-drop, length-drop, l) (omega arith);
      stored = λ t r f e b.
          let T : List ℤ = t.tables in
          let long : length T ≡ table_stride * S.image.nz = length_tables F S at d t r e in
          let front : length (take a T) ≡ a = length-take-le a T (omega arith) in
          let before : take a begun ≡ take a T = ap (take a) b ∙ take_at (take a T) (drop a f) a front in
          let after : drop a begun ≡ drop a f = ap (drop a) b ∙ drop_at (take a T) (drop a f) a front in
          let part : length (take table_stride (drop a T)) ≡ table_stride = length-take-le table_stride (drop a T) (rw (length-drop a T) (omega arith)) in
          let band : slots ≡ take table_stride (drop a T) =
          ext_get_or (pos 0) slots (take table_stride (drop a T)) (l ∙ sym part) (λ i g.
          let u : i < table_stride = omega arith in
          due i u ∙ ap (λ (x : ℕ). slot_in F S at x z i) c ∙ sym (get_or-take table_stride (drop a T) i (pos 0) u ∙ get_or-drop a T i (pos 0) ∙ slot_stored F S at d t r e z i h u)) in
          rw (before, after, band, k, drop-drop, take-add, append_assoc);
    }

-- ---- the bands before band z

pub record Bands (F : List Bool) (S : Settings) (begun : List ℤ) (first z : ℕ) (area : List ℤ) : Type 0 where
  pub most : z ≤ S.image.nz
  pub long : length area ≡ length begun
  pub components : first ≡ components_before S.predictor z
  pub stored : (h : Header) (l : List Bool) → read_header F ≡ got h l → area ≡ laid h.tables (table_stride * z) begun

pub bands_begin : (F : List Bool) (S : Settings) (begun : List ℤ) → Bands F S begun 0 0 begun
bands_begin F S begun = record { most = omega arith; long = refl; components = sym (no_components S.predictor); stored = λ h l r. refl }

pub bands_more : (F : List Bool) (S : Settings) (begun : List ℤ) (first z n : ℕ) (area area' : List ℤ) → Bands F S begun first z area → z < S.image.nz → n ≡ component_count S.predictor z → BandStored F z area area' → Bands F S begun (first + n) (z + 1) area'
bands_more F S begun first z n area area' b h c s =
    let u : table_stride * z + table_stride ≡ table_stride * (z + 1) = omega arith in
    record {
      most = omega arith;
      long = s.long ∙ b.long;
      components = ap (λ (x : ℕ). x + n) b.components ∙ ap (λ (x : ℕ). components_before S.predictor z + x) c ∙ sym (more_components S.predictor z);
      stored = λ t l r. s.stored t l begun r (b.stored t l r) ∙ ap (λ (x : ℕ). laid t.tables x begun) u;
    }

pub bands_all : (F : List Bool) (S : Settings) (at : ℕ) (begun : List ℤ) (first z : ℕ) (area : List ℤ) → AccumulatorsDone F S at → Bands F S begun first z area → S.image.nz ≤ z → Stored F S begun area
bands_all F S at begun first z area d b k =
    let e : z ≡ S.image.nz = omega (arith, b.most) in
    record {
      stored = λ h l r.
          b.stored h l r ∙ ap (λ (n : ℕ). laid h.tables (table_stride * n) begun) e ∙ laid_all h.tables begun (table_stride * S.image.nz) (length_tables F S at d h l r);
    }

-- ---- what is known before the tables are stored

pub storing_done : (F : List Bool) (S : Settings) (tables : List ℤ) (w : ℕ) → Storing F S tables → w ≡ weights_size S.image S.predictor → AccumulatorsDone F S (fixed_bits + w)
storing_done F S tables w s e =
    let d : AccumulatorsDone F S (predictor_end + weights_size S.image S.predictor + coder_bits) =
    subst (λ (x : Settings). AccumulatorsDone F x (predictor_end + weights_size x.image x.predictor + coder_bits)) s.settings (parts_done F _ s.header s.read) in
    let p : predictor_end + weights_size S.image S.predictor + coder_bits ≡ fixed_bits + w = omega arith in
    subst (AccumulatorsDone F S) p d

pub storing_facts : (F : List Bool) (S : Settings) (tables : List ℤ) → Storing F S tables → PredictorFacts F S.image S.predictor
storing_facts F S tables s = (coder_facts F S _ (storing_done F S tables _ s refl).before).before

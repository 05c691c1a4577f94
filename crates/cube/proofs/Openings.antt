-- What opening comes to, step by step behind the header.
use Rattle.std.specs.Prelude.{Result, Ok, Err, is_err, ⊤}
use mathlib.Core.Path.{◌≡◌, refl, sym, ◌∙◌, ap, subst}
use mathlib.Core.Bool.{Bool, true, false, cond, false≢true}
use mathlib.Core.List.{List, [], ◌∷◌, ◌++◌}
use Prim.Native.Nat.{ℕ, suc, ◌+◌, ◌-◌, ◌*◌, ◌^◌, ◌<◌, ◌≤◌}
use native.Mathlib.Omega.{arith}
use lib.IntN.{ℤ, pos}
use lib.ListN.{length, take, drop, replicate, length-take, length-drop, length-append, length-replicate}
use lib.Seq.{take_at, drop_at}
use borrow.Author.Tests.{le-ltb, lt-ltb}
use Rattle.bitstream.specs.Stream.{Parsed, ok, short, bad, unpack}
use Rattle.refusals.specs.declared.Refusal.{Refusal}
use Rattle.refusals.specs.declared.Refusal.TheVariants.{WrongCount, ShortArea, BodyEnds, BadCodeword, AfterEnd}
use Rattle.refusals.specs.Refusals.{clears}
use Rattle.refusals.specs.Tests.{first_hit}
use Rattle.refusals.specs.Reading.{Read, got, refused, and_then}
use Rattle.refusals.specs.ReadingLaws.{passes, no_test}
use Rattle.settings.specs.declared.Settings.{Settings}
use Rattle.settings.specs.Legal.{sample_count, settings_legal, limited}
use Rattle.settings.specs.LegalLaws.{legal_settings, limited_facts, count_fits}
use Rattle.settings.specs.Tables.{table_stride, tables_legal}
use Rattle.settings.specs.Checks.{areas_short}
use Rattle.settings.specs.CheckLaws.{Roomy, roomy_of}
use Rattle.header.specs.Read.{Header, read_header}
use Rattle.header.specs.HeaderLaws.{HeaderIs, read_header_lem}
use Rattle.header_reader.specs.Answers.{Begins}
use Rattle.header.specs.Write.{header}
use Rattle.header.specs.Sizes.{most_header_bits}
use Rattle.header.specs.SizeLaws.{header_bits_most}
use Rattle.body.specs.Order.{Place, order}
use Rattle.body.specs.OrderLaws.{inside_order, sorted_order}
use Rattle.body.specs.BodyLaws.{places_written}
use Rattle.body_value.specs.declared.plan.Plan.{Plan}
use Rattle.body_walk.specs.Whole.{ReadStarts, Answer}
use Rattle.predictor.specs.Differences.{image_of}
use Rattle.body.specs.Body.{codes, mapped_off, restored, read_body}
use Rattle.cube.specs.Open.{Cube, Lent, at_end, behind_header, opened_bits, opened}
use Rattle.closing.specs.Ending.{end_of}
use Rattle.cube.specs.Ending.{ended, at_end_is}
use Rattle.cube.specs.Opening.{end_answer, answer_of, Reached, Lendable}
use Rattle.body_value.specs.declared.Cursor.{Cursor}
use Rattle.cube.specs.Answers.{opened_number, opened_value}
use Rattle.cube.specs.Areas.{open_answer, image_after, tables_after, lent_of, Opens}
use Rattle.cube.specs.ValueLaws.{header_keeps}
use Rattle.cube.specs.FileLaws.{zeros_good, deep}
use Rattle.closing.specs.declared.ending.WrongEnd.TheVariants.{TooShort, Behind}
use Rattle.closing.specs.declared.ending.WrongEnd.{WrongEnd}
use Rattle.cube.specs.SizeLaws.{codes_most}

-- ---- an answer and its areas

-- what was read gives the answer and both areas
pub opens_as : (bytes : List ℕ) (scratch tables image : List ℤ) (x : Read Cube) {r : Result Settings Refusal} {t i : List ℤ} → opened (lent_of scratch tables image) bytes ≡ x
    → r ≡ open_answer x → t ≡ tables_after x tables → i ≡ image_after x image → Opens bytes scratch tables image r t i
opens_as bytes scratch tables image x e a b c = record {
  answer = a ∙ ap open_answer (sym e);
  number_is = ap opened_number (a ∙ ap open_answer (sym e));
  value_is = ap opened_value (a ∙ ap open_answer (sym e));
  table_area = b ∙ ap (λ (y : Read Cube). tables_after y tables) (sym e);
  image_area = c ∙ ap (λ (y : Read Cube). image_after y image) (sym e);
}

-- a refusal that touches nothing, and one that clears
pub opens_untouched : (bytes : List ℕ) (scratch tables image : List ℤ) (w : Refusal) → clears w ≡ false → opened (lent_of scratch tables image) bytes ≡ refused w
    → Opens bytes scratch tables image (Err w) tables image
unfolding open_answer tables_after image_after
opens_untouched bytes scratch tables image w k e =
    opens_as bytes scratch tables image (refused w) e refl
    (sym (ap (λ (b : Bool). cond b (replicate (length tables) (pos 0)) tables) k)) (sym (ap (λ (b : Bool). cond b (replicate (length image) (pos 0)) image) k))

pub opens_cleared : (bytes : List ℕ) (scratch tables image : List ℤ) (w : Refusal) {t i : List ℤ} → clears w ≡ true → opened (lent_of scratch tables image) bytes ≡ refused w
    → t ≡ replicate (length tables) (pos 0) → i ≡ replicate (length image) (pos 0) → Opens bytes scratch tables image (Err w) t i
unfolding open_answer tables_after image_after
opens_cleared bytes scratch tables image w k e p q =
    opens_as bytes scratch tables image (refused w) e refl
    (p ∙ sym (ap (λ (b : Bool). cond b (replicate (length tables) (pos 0)) tables) k)) (q ∙ sym (ap (λ (b : Bool). cond b (replicate (length image) (pos 0)) image) k))

-- ---- the header refused

pub opens_no_header : (bytes : List ℕ) (scratch tables image : List ℤ) (w : Refusal) → read_header (unpack bytes) ≡ refused w
    → Opens bytes scratch tables image (Err w) tables image
unfolding opened opened_bits
opens_no_header bytes scratch tables image w e =
    opens_untouched bytes scratch tables image w (header_keeps (unpack bytes) w e) (ap (λ (x : Read Header). and_then x (behind_header (lent_of scratch tables image) (length (unpack bytes)))) e)

-- ---- behind the header

module _ (bytes : List ℕ) (scratch tables image : List ℤ) (h : Header) (at : ℕ) (e : read_header (unpack bytes) ≡ got h (drop at (unpack bytes))) where
  abbrev F : List Bool
  F = unpack bytes

  abbrev lent : Lent
  lent = lent_of scratch tables image

  behind : opened lent bytes ≡ behind_header lent (length F) h (drop at F)
  unfolding opened opened_bits
  behind = ap (λ (x : Read Header). and_then x (behind_header lent (length F))) e

  pub opens_short_image : length image < sample_count h.settings.image → Opens bytes scratch tables image (Err WrongCount) tables image
  unfolding behind_header clears first_hit
  opens_short_image l = opens_untouched bytes scratch tables image WrongCount refl (behind ∙ rw (lt-ltb (length image) (sample_count h.settings.image) l))

  pub opens_short_area : sample_count h.settings.image ≤ length image → areas_short h.settings (length scratch) (length tables) ≡ true
      → Opens bytes scratch tables image (Err ShortArea) tables image
  unfolding behind_header clears first_hit
  opens_short_area l k =
      opens_untouched bytes scratch tables image ShortArea refl
      (behind ∙ rw (le-ltb (length image) (sample_count h.settings.image) l, k))

  -- with memory enough, the body decides, and behind it the end
  module _ (room : sample_count h.settings.image ≤ length image) (roomy : Roomy h.settings (length scratch) (length tables)) where
    abbrev zeros : List ℤ
    zeros = replicate (sample_count h.settings.image) (pos 0)

    abbrev body : Read (List ℤ)
    body = read_body h.settings h.tables 0 (order h.settings.image) zeros (drop at F)

    decided : opened lent bytes ≡ and_then body (λ samples rest. at_end h (length F - length rest) samples rest)
    unfolding behind_header
    decided =
        behind ∙ passes _ _ _ _ (le-ltb (length image) (sample_count h.settings.image) room)
        ∙ passes _ _ _ _ (roomy_of h.settings (length scratch) (length tables) roomy) ∙ no_test _

    -- the body refused
    pub stopped : (w : Refusal) → body ≡ refused w → opened lent bytes ≡ refused w
    stopped w k = decided ∙ ap (λ (x : Read (List ℤ)). and_then x (λ samples rest. at_end h (length F - length rest) samples rest)) k

    -- the body read up to the position a
    pub arrived : (x : List ℤ) (a : ℕ) → a ≤ length F → body ≡ got x (drop a F) → opened lent bytes ≡ ended h x (end_of h.settings.image.word a (drop a F))
    arrived x a l k =
        let n : length F - length (drop a F) ≡ a = let d = length-drop a F in omega arith in
        decided ∙ ap (λ (y : Read (List ℤ)). and_then y (λ samples rest. at_end h (length F - length rest) samples rest)) k
        ∙ ap (λ (m : ℕ). at_end h m x (drop a F)) n ∙ at_end_is h a x (drop a F)

-- ---- the same, where the settings that were read are S

module _ (bytes : List ℕ) (scratch tables image : List ℤ) (S : Settings) (at : ℕ) (b : Begins (unpack bytes) S at) where
  abbrev is : HeaderIs b.header (unpack bytes) (drop at (unpack bytes))
  is = read_header_lem (unpack bytes) (drop at (unpack bytes)) b.header b.read

  pub begun_legal : settings_legal S ≡ true
  begun_legal = ap settings_legal (sym b.settings) ∙ is.legal

  pub begun_limited : limited S.image ≡ true
  begun_limited = ap (λ (T : Settings). limited T.image) (sym b.settings) ∙ is.limited

  pub begun_count : sample_count S.image < 2 ^ 64
  begun_count = count_fits S.image (legal_settings S begun_legal).image

  same_count : sample_count b.header.settings.image ≡ sample_count S.image
  same_count = ap (λ (T : Settings). sample_count T.image) b.settings

  pub begun_short_image : length image < sample_count S.image → Opens bytes scratch tables image (Err WrongCount) tables image
  begun_short_image l = opens_short_image bytes scratch tables image b.header at b.read (rw same_count l)

  pub begun_short_area : sample_count S.image ≤ length image → areas_short S (length scratch) (length tables) ≡ true
      → Opens bytes scratch tables image (Err ShortArea) tables image
  begun_short_area l k =
      opens_short_area bytes scratch tables image b.header at b.read (rw same_count l) (ap (λ (T : Settings). areas_short T (length scratch) (length tables)) b.settings ∙ k)

-- ---- the answer for what the body came to

pub answered : (S : Settings) (F : List Bool) (g : Result Cursor Refusal) (c : Cursor) (x e : Result ⊤ WrongEnd) → g ≡ Ok c → x ≡ end_of S.image.word c.at (drop c.at F) → x ≡ e → end_answer S e ≡ answer_of S F g
unfolding answer_of
answered S F g c x e p q r = ap (end_answer S) (sym r ∙ q) ∙ sym (ap (answer_of S F) p)

-- ---- what opening comes to

-- a body that is refused clears the areas: it ends early or holds a bad codeword
body_clears : (S : Settings) (tables : List ℤ) (n : ℕ) (ps : List Place) (x : List ℤ) (l : List Bool) (w : Refusal) → read_body S tables n ps x l ≡ refused w → clears w ≡ true
unfolding read_body clears
body_clears S tables n [] x l w e = let z : ◌≡◌ {A = ℕ} 0 1 = cc in absurd (omega arith)
body_clears S tables n (p ∷ ps) x l w e = go (λ y r. body_clears S tables (suc n) ps y r w) (mapped_off S tables (image_of S.image x) p l) e
  where
    go : ((y : List ℤ) (r : List Bool) → read_body S tables (suc n) ps y r ≡ refused w → clears w ≡ true) → (d : Parsed)
        → ◌≡◌ {A = Read (List ℤ)} (elim d as (λ _. Read (List ℤ)) [ ok v r ↦ read_body S tables (suc n) ps (restored S tables p x v) r | short ↦ refused (BodyEnds n) | bad ↦ refused (BadCodeword n) ]) (refused w)
        → clears w ≡ true
    go rec (ok v r) e = rec (restored S tables p x v) r e
    go rec short e = let k : BodyEnds n ≡ w = cc in subst (λ (v : Refusal). clears v ≡ true) k refl
    go rec bad e = let k : BadCodeword n ≡ w = cc in subst (λ (v : Refusal). clears v ≡ true) k refl

-- what body and end came to, g with the samples x, settles the whole
pub record Outcome (bytes : List ℕ) (lent : Lent) (S : Settings) (T x : List ℤ) (g : Result Cursor Refusal) : Type 0 where
  pub reached : Reached (unpack bytes) g
  pub answer : answer_of S (unpack bytes) g ≡ open_answer (opened lent bytes)
  pub whole : is_err (answer_of S (unpack bytes) g) ≡ false → opened lent bytes ≡ got (record { settings = S; tables = T; samples = x }) []
  pub refusal : is_err (answer_of S (unpack bytes) g) ≡ true → (w : Refusal) × (opened lent bytes ≡ refused w) × (clears w ≡ true)

module _ (bytes : List ℕ) (scratch tables image : List ℤ) (h : Header) (at : ℕ) (e : read_header (unpack bytes) ≡ got h (drop at (unpack bytes))) (fits : at ≤ length (unpack bytes))
    (room : sample_count h.settings.image ≤ length image) (roomy : Roomy h.settings (length scratch) (length tables)) where
  -- the three endings
  by_end : (x : List ℤ) (c : Cursor) (E : Result ⊤ WrongEnd) → Reached (unpack bytes) (Ok c) → end_of h.settings.image.word c.at (drop c.at (unpack bytes)) ≡ E
      → opened (lent_of scratch tables image) bytes ≡ ended h x E → Outcome bytes (lent_of scratch tables image) h.settings h.tables x (Ok c)
  unfolding answer_of end_answer open_answer ended clears
  by_end x c (Ok tt) r k o = record {
    reached = r;
    answer = ap (end_answer h.settings) k ∙ sym (ap open_answer o);
    whole = λ _. o;
    refusal = λ q. let z : false ≡ true = sym (ap (λ (E : Result ⊤ WrongEnd). is_err (end_answer h.settings E)) k) ∙ q in absurd (false≢true z);
  }
  by_end x c (Err TooShort) r k o = record {
    reached = r;
    answer = ap (end_answer h.settings) k ∙ sym (ap open_answer o);
    whole = λ q. let z : true ≡ false = sym (ap (λ (E : Result ⊤ WrongEnd). is_err (end_answer h.settings E)) k) ∙ q in absurd (false≢true (sym z));
    refusal = λ _. (BodyEnds (sample_count h.settings.image), o, refl);
  }
  by_end x c (Err Behind) r k o = record {
    reached = r;
    answer = ap (end_answer h.settings) k ∙ sym (ap open_answer o);
    whole = λ q. let z : true ≡ false = sym (ap (λ (E : Result ⊤ WrongEnd). is_err (end_answer h.settings E)) k) ∙ q in absurd (false≢true (sym z));
    refusal = λ _. (AfterEnd (sample_count h.settings.image), o, refl);
  }

  abbrev known : HeaderIs h (unpack bytes) (drop at (unpack bytes))
  known = read_header_lem (unpack bytes) (drop at (unpack bytes)) h e

  -- the header ends early in the file
  pub position_small : at ≤ most_header_bits
  position_small =
      let l = ap length known.same ∙ length-append (header h.settings h.tables) (drop at (unpack bytes)) in
      let d = length-drop at (unpack bytes) in
      let s = header_bits_most h.settings h.tables (legal_settings h.settings known.legal) (limited_facts h.settings.image known.limited).few_bands in
      omega arith

  -- and so does the body, where it is read
  body_position : (x : List ℤ) (a : ℕ) → a ≤ length (unpack bytes)
      → read_body h.settings h.tables 0 (order h.settings.image) (replicate (sample_count h.settings.image) (pos 0)) (drop at (unpack bytes)) ≡ got x (drop a (unpack bytes)) → a ≤ 2 ^ 60
  body_position x a l k =
      let L = (legal_settings h.settings known.legal).image in
      let deep : 1 ≤ h.settings.image.depth = let d = L.depth_least in omega arith in
      let w = places_written h.settings h.tables L.nx_least deep 0 _ x (order h.settings.image) (drop at (unpack bytes)) (drop a (unpack bytes))
      (zeros_good h.settings deep) (inside_order h.settings.image) (sorted_order h.settings.image) k in
      let c : List Bool = codes h.settings h.tables (image_of h.settings.image x) (order h.settings.image) in
      let n : length (drop at (unpack bytes)) ≡ length c + length (drop a (unpack bytes)) = ap length w.same ∙ length-append c (drop a (unpack bytes)) in
      let b = codes_most h.settings h.tables x known.legal known.limited in
      let p = length-drop at (unpack bytes) in
      let q = length-drop a (unpack bytes) in
      let s = position_small in
      omega arith

  pub outcome : (x : List ℤ) (g : Result Cursor Refusal) → Answer h.settings h.tables (unpack bytes) at (replicate (sample_count h.settings.image) (pos 0)) x g
      → Outcome bytes (lent_of scratch tables image) h.settings h.tables x g
  unfolding answer_of open_answer clears
  outcome x (Ok c) w =
      let l : c.at ≤ length (unpack bytes) = w.inside fits in
      by_end x c (end_of h.settings.image.word c.at (drop c.at (unpack bytes))) (l, body_position x c.at l w.read) refl
      (arrived bytes scratch tables image h at e room roomy x c.at l w.read)
  outcome x (Err r) w =
      let o = stopped bytes scratch tables image h at e room roomy r w in
      record {
        reached = tt;
        answer = sym (ap open_answer o);
        whole = λ q. absurd (false≢true (sym q));
        refusal = λ _. (r, o, body_clears h.settings h.tables 0 (order h.settings.image) _ (drop at (unpack bytes)) r w);
      }

-- ---- the areas on the way

-- a part that the list has
pub part_long : (n : ℕ) (l : List ℤ) → n ≤ length l → n ≡ length (take n l)
part_long n l h = let t = length-take n l in omega arith

module _ (bytes : List ℕ) (scratch tables image : List ℤ) (S : Settings) (at : ℕ) (L : Lendable (unpack bytes) S at scratch tables image) where
  abbrev b : Begins (unpack bytes) S at
  b = L.begins

  abbrev h : Header
  h = b.header

  abbrev m : ℕ
  m = table_stride * S.image.nz

  h_is : HeaderIs h (unpack bytes) (drop at (unpack bytes))
  h_is = read_header_lem (unpack bytes) (drop at (unpack bytes)) h b.read

  h_long : length h.tables ≡ m
  h_long = h_is.long ∙ ap (λ (T : Settings). table_stride * T.image.nz) b.settings

  h_entries : tables_legal S h.tables ≡ true
  h_entries = ap (λ (T : Settings). tables_legal T h.tables) (sym b.settings) ∙ h_is.entries

  h_room : sample_count h.settings.image ≤ length image
  h_room = let e = ap (λ (T : Settings). sample_count T.image) b.settings in let r = L.room in omega arith

  h_roomy : Roomy h.settings (length scratch) (length tables)
  h_roomy = subst (λ (T : Settings). Roomy T (length scratch) (length tables)) (sym b.settings) L.areas

  -- the table area once the tables are stored, and the image area once its first n slots are cleared
  module _ (t1 z : List ℤ) (n : ℕ) (stored : t1 ≡ h.tables ++ drop m tables) (count : n ≡ sample_count S.image) (cleared : z ≡ replicate (length (take n image)) (pos 0)) where
    z_long : length (take n image) ≡ n
    z_long = length-take n image ∙ (let r = L.room in omega arith)

    z_is : z ≡ replicate n (pos 0)
    z_is = cleared ∙ ap (λ (k : ℕ). replicate k (pos 0)) z_long

    front : take n (z ++ drop n image) ≡ replicate (sample_count S.image) (pos 0)
    front = take_at z (drop n image) n (ap length z_is ∙ length-replicate n (pos 0)) ∙ z_is ∙ ap (λ (k : ℕ). replicate k (pos 0)) count

    -- both parts that the body is lent are as long as they are asked to be
    pub front_long : n ≡ length (take n (z ++ drop n image))
    front_long = count ∙ sym (ap length front ∙ length-replicate (sample_count S.image) (pos 0))

    tables_front : take m t1 ≡ h.tables
    tables_front = ap (take m) stored ∙ take_at h.tables (drop m tables) m h_long

    pub tables_long : m ≡ length (take m t1)
    tables_long = sym (ap length tables_front ∙ h_long)

    pub begun_starts : (P : Plan) (scratch' : List ℤ) → P.settings ≡ S → length scratch' ≡ length scratch → ReadStarts P (take m t1) (take n (z ++ drop n image)) scratch' at
    begun_starts P scratch' p l =
        let legal = begun_legal bytes scratch tables image S at b in
        rw (tables_front, front) (record {
          tabled = record {
            values = rw p h_entries;
            area = let k = h_long in rw p (omega arith);
            long = let k = L.areas.scratch_holds in rw p (omega arith);
          };
          image = rw p (record {
            legal = legal;
            within = begun_limited bytes scratch tables image S at b;
            long = length-replicate (sample_count S.image) (pos 0);
            ranged = λ i _. (zeros_good S (deep S legal)).in_range_lem i;
          });
          at_most = let k = position_small bytes scratch tables image h at b.read b.fits h_room h_roomy in omega arith;
        })

    pub begun_outcome : (R : Settings) → R ≡ S → (x : List ℤ) (g : Result Cursor Refusal) → Answer R (take m t1) (unpack bytes) at (take n (z ++ drop n image)) x g
        → Outcome bytes (lent_of scratch tables image) S h.tables x g
    begun_outcome R p x g a =
        subst (λ (T : Settings). Answer T h.tables (unpack bytes) at (replicate (sample_count T.image) (pos 0)) x g → Outcome bytes (lent_of scratch tables image) T h.tables x g) b.settings
        (outcome bytes scratch tables image h at b.read b.fits h_room h_roomy x g)
        (rw (p, tables_front, front) at a)

    -- the image area with its first part read keeps its length
    pub image_long : (x : List ℤ) → length x ≡ length (take n (z ++ drop n image)) → length (x ++ drop n (z ++ drop n image)) ≡ length image
    image_long x l =
        let a = length-append x (drop n (z ++ drop n image)) in
        let d : length (drop n (z ++ drop n image)) ≡ length (drop n image) = ap length (drop_at z (drop n image) n (ap length z_is ∙ length-replicate n (pos 0))) in
        let b = length-drop n image in
        let f = front_long in
        let r = L.room in
        omega arith

    -- all read: the areas hold tables and samples, and behind them what they held
    pub opens_done : (x : List ℤ) (g : Result Cursor Refusal) (r : Result Settings Refusal) → Outcome bytes (lent_of scratch tables image) S h.tables x g → length x ≡ n
        → r ≡ answer_of S (unpack bytes) g → is_err (answer_of S (unpack bytes) g) ≡ false → Opens bytes scratch tables image r t1 (x ++ drop n (z ++ drop n image))
    unfolding tables_after image_after
    opens_done x g r o l a k =
        opens_as bytes scratch tables image (got (record { settings = S; tables = h.tables; samples = x }) []) (o.whole k)
        (a ∙ o.answer ∙ ap open_answer (o.whole k))
        (stored ∙ ap (λ (j : ℕ). h.tables ++ drop j tables) (sym h_long))
        (ap (λ (y : List ℤ). x ++ y) (drop_at z (drop n image) n (ap length z_is ∙ length-replicate n (pos 0)) ∙ ap (λ (j : ℕ). drop j image) (sym l)))

  -- refused: both areas are cleared whole
  pub opens_refused : (T x t i : List ℤ) (g : Result Cursor Refusal) (r : Result Settings Refusal) → Outcome bytes (lent_of scratch tables image) S T x g → r ≡ answer_of S (unpack bytes) g
      → is_err (answer_of S (unpack bytes) g) ≡ true → t ≡ replicate (length tables) (pos 0) → i ≡ replicate (length image) (pos 0) → Opens bytes scratch tables image r t i
  unfolding open_answer
  opens_refused T x t i g r o a k p q =
      let w = o.refusal k in
      let e : r ≡ Err w.0 = a ∙ o.answer ∙ ap open_answer w.1 in
      subst (λ (y : Result Settings Refusal). Opens bytes scratch tables image y t i) (sym e) (opens_cleared bytes scratch tables image w.0 w.2 w.1 p q)

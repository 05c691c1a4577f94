-- The whole file both ways: what is packed opens to what was packed, and what opens was packed.
use Rattle.std.specs.Prelude.{◌≡◌, refl, Bool, true, not, ℕ, zero, suc, ◌+◌, ◌-◌, ◌*◌, ◌<◌, ◌≤◌, ℤ, pos, get_or, replicate, ltb}
use Rattle.std.proofs.Math.Path.{sym}
use Rattle.std.proofs.Common.{◌∙◌, ap, ap₂, subst, arith, length-append}
use Rattle.std.proofs.Math.Bool.{false}
use mathlib.Core.List.{List, [], ◌++◌, append_assoc}
use Rattle.std.proofs.Math.ListN.{length, length-replicate}
use borrow.Author.Tests.{le-ltb, not-false}
use Rattle.bitstream.specs.Stream.{Bytes, pack, unpack, zeros, filling, filled}
use Rattle.bitstream.proofs.Laws.{unpack_pack, pack_unpack, filled_whole, whole_bytes}
use Rattle.refusals.specs.declared.Refusal.{Refusal}
use Rattle.refusals.specs.Reading.{Read, got, refused, and_then}
use Rattle.refusals.specs.ReadingLaws.{passes, no_test, passed, sequenced}
use Rattle.settings.specs.declared.Settings.{Settings}
use Rattle.settings.specs.Legal.{sample_count, settings_legal, limited}
use Rattle.settings.specs.LegalLaws.{legal_settings}
use Rattle.settings.specs.Range.{lowest, highest, in_range}
use Rattle.settings.specs.RangeLaws.{zero_in_range}
use Rattle.settings.specs.Tables.{table_stride, entry, tables_legal}
use Rattle.settings.specs.TableLaws.{components_fit}
use Rattle.header.specs.Fields.{same}
use Rattle.header.specs.FieldLaws.{same_refl, same_true}
use Rattle.header.specs.Parts.{used_image}
use Rattle.header.specs.Tables.{used_tables}
use Rattle.header.specs.Write.{header, used_settings}
use Rattle.settings.specs.CheckLaws.{roomy_of, none_of}
use Rattle.header.specs.Read.{Header, read_header}
use Rattle.header.specs.TableLaws.{entry_slots}
use Rattle.header.specs.HeaderLaws.{header_read, read_header_lem, header_used, used_legal}
use Rattle.body.specs.Order.{order}
use Rattle.body.specs.OrderLaws.{sorted_order, inside_order, complete}
use Rattle.cube.specs.UsedLaws.{body_used}
use Rattle.body.specs.BodyLaws.{Good, places_read, places_written}
use Rattle.body.specs.Body.{body, read_body}
use Rattle.cube.specs.File.{file_bits, file}
use Rattle.cube.specs.Open.{at_end, Cube, Lent, behind_header, opened_bits, opened}
use Rattle.cube.specs.Terms.{Enough}

-- ---- the end of the file

module _ (h : Header) (end : ℕ) (samples : List ℤ) where
  abbrev fill : ℕ
  fill = filling (8 * h.settings.image.word) end

  abbrev cube : Cube
  cube = record { settings = h.settings; tables = h.tables; samples = samples }

  end_read : at_end h end samples (zeros fill) ≡ got cube []
  unfolding at_end
  end_read =
      let n : length (zeros fill) ≡ fill = length-replicate fill false in
      passes _ _ _ _ (rw n (le-ltb fill fill (omega arith)))
      ∙ passes _ _ _ _ (rw (n, le-ltb fill fill (omega arith), same_refl (zeros fill)))
      ∙ no_test (got cube [])

  pub record AtEnd (l : List Bool) (c : Cube) (r : List Bool) : Type 0 where
    pub zeros_left : l ≡ zeros fill
    pub kept : cube ≡ c
    pub nothing_left : r ≡ []

  end_written : (l : List Bool) (c : Cube) (r : List Bool) → at_end h end samples l ≡ got c r → AtEnd l c r
  unfolding at_end
  end_written l c r e =
      let p = passed _ _ _ _ c r e in
      let q = passed _ _ _ _ c r p.1 in
      let o = none_of (ltb fill (length l)) (not (same l (zeros fill))) q.0 in
      let g : got cube [] ≡ got c r = sym (no_test (got cube [])) ∙ q.1 in
      record { zeros_left = same_true l (zeros fill) (not-false (same l (zeros fill)) o.1); kept = cc; nothing_left = cc }

-- ---- bits and bytes of a file

pub file_bits_lem : (S : Settings) (tables samples : List ℤ) → 0 < S.image.word → unpack (file S tables samples) ≡ file_bits S tables samples
unfolding file file_bits
file_bits_lem S tables samples h =
    unpack_pack (filled (8 * S.image.word) (header S tables ++ body S tables samples))
    (whole_bytes S.image.word _ (filled_whole (8 * S.image.word) _ (omega arith)))

-- a file's bits are header, body and fill
pub file_parts : (S : Settings) (tables samples : List ℤ)
    → file_bits S tables samples ≡ header S tables ++ (body S tables samples ++ zeros (filling (8 * S.image.word) (length (header S tables ++ body S tables samples))))
unfolding file_bits filled
file_parts S tables samples = append_assoc (header S tables) (body S tables samples) _

-- what opened: legal settings, table values and samples, with what they do not use as 0, and the file of them
pub record FileOf (c : Cube) (bits : List Bool) : Type 0 where
  pub legal : settings_legal c.settings ≡ true
  pub within : limited c.settings.image ≡ true
  pub entries : tables_legal c.settings c.tables ≡ true
  pub samples : Good c.settings c.samples
  pub used_settings_lem : used_settings c.settings ≡ c.settings
  pub used_tables_lem : used_tables c.settings c.tables ≡ c.tables
  pub long : length c.tables ≡ table_stride * c.settings.image.nz
  pub same : bits ≡ file_bits c.settings c.tables c.samples

-- ---- settings that are none do not matter here

pub count_used : (S : Settings) → sample_count S.image ≡ sample_count (used_settings S).image
unfolding sample_count used_settings used_image
count_used S = refl

pub range_used : (S : Settings) (s : ℤ) → in_range S.image s ≡ in_range (used_settings S).image s
unfolding in_range lowest highest used_settings used_image
range_used S s = refl

word_used : (S : Settings) → (used_settings S).image.word ≡ S.image.word
unfolding used_settings used_image
word_used S = refl

get_or_zeros : (n i : ℕ) → get_or (replicate n (pos 0)) i (pos 0) ≡ pos 0
get_or_zeros zero i = refl
get_or_zeros (suc n) zero = refl
get_or_zeros (suc n) (suc i) = get_or_zeros n i

enough_used : (S : Settings) (lent : Lent) → Enough S lent → Enough (used_settings S) lent
unfolding used_settings used_image sample_count
enough_used S lent e = record { image = e.image; areas = record { scratch_holds = e.areas.scratch_holds; tables_hold = e.areas.tables_hold } }

good_used : (S : Settings) (samples : List ℤ) → Good S samples → Good (used_settings S) samples
good_used S samples g = record { long = g.long ∙ count; in_range_lem = λ i. sym (ranged (get_or samples i (pos 0))) ∙ g.in_range_lem i }
  where
    count : sample_count S.image ≡ sample_count (used_settings S).image
    count = count_used S

    ranged : (s : ℤ) → in_range S.image s ≡ in_range (used_settings S).image s
    ranged s = range_used S s

-- nothing yet read: zeros, each in range
pub zeros_good : (S : Settings) → 1 ≤ S.image.depth → Good S (replicate (sample_count S.image) (pos 0))
zeros_good S d = record { long = length-replicate (sample_count S.image) (pos 0); in_range_lem = λ i. subst (λ (v : ℤ). in_range S.image v ≡ true) (sym (get_or_zeros (sample_count S.image) i)) (zero_in_range S.image d) }

pub deep : (S : Settings) → settings_legal S ≡ true → 1 ≤ S.image.depth
deep S legal = let d = (legal_settings S legal).image.depth_least in omega arith

-- what the reader finds behind the header of a packed file
body_back : (S : Settings) (tables samples : List ℤ) (r : List Bool) → settings_legal S ≡ true → Good S samples
    → read_body S tables 0 (order S.image) (replicate (sample_count S.image) (pos 0)) (body S tables samples ++ r) ≡ got samples r
unfolding body
body_back S tables samples r legal g =
    let L = (legal_settings S legal).image in
    places_read S tables L.nx_least (deep S legal) 0 (replicate (sample_count S.image) (pos 0)) samples (order S.image) r
    (zeros_good S (deep S legal)) g (inside_order S.image) (sorted_order S.image)
    (λ q i o. absurd (complete S.image L.nx_least (λ b. (L.interleaved b).0) q i o))

-- behind the header: memory enough, the body, the end
rest_back : (h : Header) (samples : List ℤ) (lent : Lent) (size : ℕ) → settings_legal h.settings ≡ true → Good h.settings samples → Enough h.settings lent
    → size ≡ length (file_bits h.settings h.tables samples)
    → behind_header lent size h
    (body h.settings h.tables samples
    ++ zeros (filling (8 * h.settings.image.word) (length (header h.settings h.tables ++ body h.settings h.tables samples))))
    ≡ got (record { settings = h.settings; tables = h.tables; samples = samples }) []
unfolding behind_header
rest_back h samples lent size legal g e is =
    passes _ _ _ _ (le-ltb lent.image (sample_count h.settings.image) e.image)
    ∙ passes _ _ _ _ (roomy_of h.settings lent.scratch lent.tables e.areas) ∙ no_test _
    ∙ ap (λ (x : Read (List ℤ)). and_then x (λ y rest. at_end h (size - length rest) y rest)) (body_back h.settings h.tables samples _ legal g)
    ∙ ap (λ (k : ℕ). at_end h k samples (zeros f)) end_is
    ∙ end_read h n samples
  where
    n : ℕ
    n = length (header h.settings h.tables ++ body h.settings h.tables samples)

    f : ℕ
    f = filling (8 * h.settings.image.word) n

    end_is : size - length (zeros f) ≡ n
    end_is =
        let a : size ≡ n + length (zeros f) =
        is
        ∙ ap length (file_parts h.settings h.tables samples ∙ sym (append_assoc (header h.settings h.tables) (body h.settings h.tables samples) (zeros f)))
        ∙ length-append (header h.settings h.tables ++ body h.settings h.tables samples) (zeros f) in
        omega arith

-- the file looks at no setting that is none
pub file_bits_used : (S : Settings) (tables samples : List ℤ) → settings_legal S ≡ true → file_bits (used_settings S) (used_tables S tables) samples ≡ file_bits S tables samples
unfolding file_bits used_tables
file_bits_used S tables samples legal =
    ap₂ (λ (a b : List Bool). filled (8 * (used_settings S).image.word) (a ++ b))
    (header_used S tables legal)
    (body_used S tables (λ z. components_fit S.predictor z (legal_settings S legal).predictor.bands_most) (λ z i. entry_slots S (entry tables) z i) samples)
    ∙ ap (λ (w : ℕ). filled (8 * w) (header S tables ++ body S tables samples)) (word_used S)

-- DEMAND 2 of the definitions: a packed file opens to what was packed
pub opened_file : (S : Settings) (tables samples : List ℤ) (lent : Lent) → settings_legal S ≡ true → limited S.image ≡ true → tables_legal S tables ≡ true
    → Good S samples → Enough S lent
    → opened lent (file S tables samples) ≡ got (record { settings = used_settings S; tables = used_tables S tables; samples = samples }) []
unfolding opened opened_bits
opened_file S tables samples lent legal within entries g e =
    ap (opened_bits lent) (file_bits_lem S tables samples (legal_settings S legal).image.word_least ∙ sym (file_bits_used S tables samples legal))
    ∙ ap (λ (x : Read Header). and_then x (behind_header lent (length (file_bits S' tables' samples))))
    (ap read_header (file_parts S' tables' samples ∙ ap (λ (a : List Bool). a ++ r) (header_used S tables legal)) ∙ header_read S tables r legal within entries)
    ∙ rest_back (record { settings = S'; tables = tables' }) samples lent _ (used_legal S ∙ legal) (good_used S samples g) (enough_used S lent e) refl
  where
    S' : Settings
    S' = used_settings S

    tables' : List ℤ
    tables' = used_tables S tables

    r : List Bool
    r = body S' tables' samples ++ zeros (filling (8 * S'.image.word) (length (header S' tables' ++ body S' tables' samples)))

-- ---- and back

pub record Behind (lent : Lent) (size : ℕ) (h : Header) (l : List Bool) (c : Cube) (r : List Bool) : Type 0 where
  pub samples : List ℤ
  pub rest : List Bool
  pub body_is : l ≡ body h.settings h.tables samples ++ rest
  pub good : Good h.settings samples
  pub rest_is : rest ≡ zeros (filling (8 * h.settings.image.word) (size - length rest))
  pub cube_is : record { settings = h.settings; tables = h.tables; samples = samples } ≡ c
  pub nothing_left : r ≡ []

behind_written : (lent : Lent) (size : ℕ) (h : Header) (l : List Bool) (c : Cube) (r : List Bool) → settings_legal h.settings ≡ true
    → behind_header lent size h l ≡ got c r → Behind lent size h l c r
unfolding behind_header body
behind_written lent size h l c r legal e =
    let p = passed _ _ _ _ c r e in
    let q = passed _ _ _ _ c r p.1 in
    let s = sequenced _ _ c r (sym (no_test _) ∙ q.1) in
    let L = (legal_settings h.settings legal).image in
    let w = places_written h.settings h.tables L.nx_least (deep h.settings legal) 0 _ s.value (order h.settings.image) l s.behind
    (zeros_good h.settings (deep h.settings legal)) (inside_order h.settings.image) (sorted_order h.settings.image) s.first in
    let t = end_written h (size - length s.behind) s.value s.behind c r s.then in
    record { samples = s.value; rest = s.behind; body_is = w.same; good = w.good; rest_is = t.zeros_left; cube_is = t.kept; nothing_left = t.nothing_left }

-- bits that are header, body and as many zeros as their own length asks for are those of the file
filled_up : (m : ℕ) (l a b c : List Bool) → l ≡ a ++ (b ++ c) → c ≡ zeros (filling m (length l - length c)) → l ≡ filled m (a ++ b)
unfolding filled
filled_up m l a b c e z =
    let n : length l ≡ length (a ++ b) + length c = ap length (e ∙ sym (append_assoc a b c)) ∙ length-append (a ++ b) c in
    let k : length l - length c ≡ length (a ++ b) = omega arith in
    e ∙ sym (append_assoc a b c) ∙ ap (λ (x : List Bool). (a ++ b) ++ x) (z ∙ ap (λ (x : ℕ). zeros (filling m x)) k)

packed_bits : (lent : Lent) (l : List Bool) (c : Cube) (r : List Bool) → opened_bits lent l ≡ got c r → FileOf c l
unfolding opened_bits file_bits
packed_bits lent l c r e =
    let s = sequenced _ _ c r e in
    let h = s.value in
    let i = read_header_lem l s.behind h s.first in
    let b = behind_written lent (length l) h s.behind c r i.legal s.then in
    subst (λ (x : Cube). FileOf x l) b.cube_is
    (record {
      legal = i.legal;
      within = i.limited;
      entries = i.entries;
      samples = b.good;
      used_settings_lem = i.settings;
      used_tables_lem = i.tables;
      long = i.long;
      same = filled_up (8 * h.settings.image.word) l (header h.settings h.tables) (body h.settings h.tables b.samples) b.rest
          (i.same ∙ ap (λ (x : List Bool). header h.settings h.tables ++ x) b.body_is) b.rest_is;
    })

-- DEMAND 3 of the definitions: what opens was packed
pub file_opened : (lent : Lent) (bytes : List ℕ) (c : Cube) (r : List Bool) → Bytes bytes → opened lent bytes ≡ got c r
    → FileOf c (unpack bytes) × (file c.settings c.tables c.samples ≡ bytes)
unfolding opened file
file_opened lent bytes c r o e =
    let p = packed_bits lent (unpack bytes) c r e in
    (p, ap pack (sym p.same) ∙ pack_unpack bytes o)

-- what is refused, with enough memory for it, is no file of any legal settings and image
pub refused_no_file : (lent : Lent) (bytes : List ℕ) (w : Refusal) → opened lent bytes ≡ refused w
    → (S : Settings) (tables samples : List ℤ) → settings_legal S ≡ true → limited S.image ≡ true → tables_legal S tables ≡ true → Good S samples → Enough S lent
    → file S tables samples ≡ bytes → ⊥
refused_no_file lent bytes w e S tables samples legal within entries g n f =
    let k = opened_file S tables samples lent legal within entries g n in
    let k' = ap (opened lent) f in
    let z : ◌≡◌ {A = ℕ} 0 1 = cc in
    omega arith

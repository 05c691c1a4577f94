-- Packing looks at no setting that is none and at no table slot that is not used: its tests and its file are those of the settings and slots in use.
use Rattle.std.specs.Prelude.{◌≡◌, Bool, true, false, cond, not, ◌&&◌, ◌||◌, List, [], ◌∷◌, ◌++◌, ℕ, zero, suc, ◌+◌, ◌*◌, ◌<◌, ◌≤◌, ℤ, pos, length, Result, Ok, Err, ⊤}
use Rattle.std.proofs.Math.Path.{refl, sym, ap}
use Rattle.std.proofs.Common.{◌∙◌, ap₂, mul-le-mul_left, mul-suc, arith}
use Rattle.std.proofs.Math.ListN.{get_or-append}
use Rattle.bitstream.specs.Stream.{pack}
use Rattle.settings.specs.declared.Settings.{Settings}
use Rattle.refusals.specs.declared.Refusal.TheVariants.{IllegalSetting}
use Rattle.settings.specs.Legal.{settings_legal, limited, sample_count}
use Rattle.settings.specs.LegalLaws.{legal_settings}
use Rattle.settings.specs.Range.{first_out}
use Rattle.settings.specs.Tables.{table_stride, parameter_slot, entry, component_count, every, weight_legal, accumulator_legal, band_legal, tables_legal}
use Rattle.settings.specs.TableLaws.{components_fit}
use Rattle.refusals.specs.Tests.{first_hit}
use Rattle.settings.specs.Checks.{areas_short, check_pack}
use Rattle.header.specs.Parts.{used_image}
use Rattle.header.specs.Tables.{used, used_tables}
use Rattle.header.specs.TableLaws.{entry_slots, slots_ext}
use Rattle.header.specs.Write.{used_settings}
use Rattle.header.specs.HeaderLaws.{used_legal, tables_legal_used}
use Rattle.cube.specs.File.{file, length_answer, packed}
use Rattle.cube.specs.Areas.{out_after}
use Rattle.cube.specs.UsedLaws.{weight_used, accumulator_used}
use Rattle.refusals.specs.declared.Refusal.{Refusal}
use Rattle.cube.specs.FileLaws.{count_used, range_used, file_bits_used}

-- ---- table values

every_same : (n : ℕ) (f g : ℕ → Bool) → ((i : ℕ) → i < n → f i ≡ g i) → every n f ≡ every n g
unfolding every
every_same zero f g h = refl
every_same (suc n) f g h = ap₂ (λ (a b : Bool). a && b) (every_same n f g (λ i l. h i (omega arith))) (h n (omega arith))

where_set : (b x y : Bool) → (b ≡ true → x ≡ y) → (not b || x) ≡ (not b || y)
where_set true x y e = e refl
where_set false x y e = refl

-- the tests of the values see the slots in use alone
pub tables_kept : (S : Settings) (tables : List ℤ) → S.predictor.bands ≤ 15 → tables_legal S (used_tables S tables) ≡ tables_legal S tables
unfolding tables_legal band_legal used_tables
tables_kept S tables few =
    every_same S.image.nz _ _ (λ z h.
    ap₂ (λ (a b : Bool). a && b)
    (where_set S.predictor.custom _ _ (λ c. every_same (component_count S.predictor z) _ _ (λ i l. ap (weight_legal S.predictor.precision) (weight_used S tables fit kept z i h c l))))
    (where_set S.coder.tabled _ _ (λ c. ap (accumulator_legal S.image.depth) (accumulator_used S tables fit kept z h c))))
  where
    fit : (z : ℕ) → component_count S.predictor z ≤ parameter_slot
    fit z = components_fit S.predictor z few

    kept : (z i : ℕ) → z < S.image.nz → i < table_stride → entry (used_tables S tables) z i ≡ cond (used S z i) (entry tables z i) (pos 0)
    kept z i = entry_slots S (entry tables) z i

-- what stands behind the slots of Nz bands is not used
pub tables_front : (S : Settings) (tables rest : List ℤ) → length tables ≡ table_stride * S.image.nz → used_tables S (tables ++ rest) ≡ used_tables S tables
unfolding used_tables entry
tables_front S tables rest l =
    slots_ext S _ _ (λ z i h k _.
    get_or-append tables rest (pos 0) (table_stride * z + i) (let m : table_stride * suc z ≤ table_stride * S.image.nz = mul-le-mul_left table_stride h in let s = mul-suc table_stride z in omega arith))

-- ---- the file

pub file_used : (S : Settings) (tables samples : List ℤ) → settings_legal S ≡ true → file (used_settings S) (used_tables S tables) samples ≡ file S tables samples
unfolding file
file_used S tables samples legal = ap pack (file_bits_used S tables samples legal)

-- ---- the tests

limited_used : (S : Settings) → limited (used_settings S).image ≡ limited S.image
unfolding limited sample_count used_settings used_image
limited_used S = refl

first_used : (S : Settings) (samples : List ℤ) → first_out (used_settings S).image samples ≡ first_out S.image samples
unfolding first_out
first_used S [] = refl
first_used S (s ∷ ss) = rw (range_used S s, first_used S ss)

module _ (S S' : Settings) (T T' samples : List ℤ) (n n' : ℕ) (same : used_settings S ≡ used_settings S') (tables : used_tables S T ≡ used_tables S' T')
    (areas : areas_short S n (length T) ≡ areas_short S' n' (length T')) where
  legal_same : settings_legal S ≡ settings_legal S'
  legal_same = sym (used_legal S) ∙ ap settings_legal same ∙ used_legal S'

  -- as seen by a law of the settings in use
  by_used : {A : Type 0} (f g : Settings → A) → ((R : Settings) → g (used_settings R) ≡ f R) → f S ≡ f S'
  by_used f g h = sym (h S) ∙ ap g same ∙ h S'

  module _ (legal : settings_legal S ≡ true) where
    few : (R : Settings) → settings_legal R ≡ true → R.predictor.bands ≤ 15
    few R l = (legal_settings R l).predictor.bands_most

    entries_same : tables_legal S T ≡ tables_legal S' T'
    entries_same =
        sym (tables_legal_used S (used_tables S T) ∙ tables_kept S T (few S legal))
        ∙ ap₂ tables_legal same tables
        ∙ tables_legal_used S' (used_tables S' T') ∙ tables_kept S' T' (few S' (sym legal_same ∙ legal))

    file_same : file S T samples ≡ file S' T' samples
    file_same =
        sym (file_used S T samples legal) ∙ ap₂ (λ (R : Settings) (t : List ℤ). file R t samples) same tables ∙ file_used S' T' samples (sym legal_same ∙ legal)

    check_same : check_pack S T samples n ≡ check_pack S' T' samples n'
    unfolding check_pack
    check_same =
        let l = legal_same in
        let m = by_used (λ R. limited R.image) (λ R. limited R.image) limited_used in
        let c = by_used (λ R. sample_count R.image) (λ R. sample_count R.image) (λ R. sym (count_used R)) in
        let f = by_used (λ R. first_out R.image samples) (λ R. first_out R.image samples) (λ R. first_used R samples) in
        rw (l, m, c, f, areas, entries_same)

    length_same : length_answer S T samples n ≡ length_answer S' T' samples n'
    unfolding length_answer
    length_same = go (check_pack S' T' samples n') check_same refl
      where
        go : (x : Result ⊤ Refusal) → check_pack S T samples n ≡ x → check_pack S' T' samples n' ≡ x → length_answer S T samples n ≡ length_answer S' T' samples n'
        go (Ok tt) p q = rw (p, q, file_same)
        go (Err w) p q = rw (p, q)

  -- settings that are illegal are refused first
  illegal : (R : Settings) (t : List ℤ) (k : ℕ) → settings_legal R ≡ false → length_answer R t samples k ≡ Err IllegalSetting
  unfolding length_answer check_pack first_hit
  illegal R t k e = rw e

  pub length_ignores : length_answer S T samples n ≡ length_answer S' T' samples n'
  length_ignores = go (settings_legal S) refl
    where
      go : (b : Bool) → settings_legal S ≡ b → length_answer S T samples n ≡ length_answer S' T' samples n'
      go true e = length_same e
      go false e = illegal S T n e ∙ sym (illegal S' T' n' (sym legal_same ∙ e))

  pub packed_ignores : (room : ℕ) → packed S T samples n room ≡ packed S' T' samples n' room
  unfolding packed
  packed_ignores room = go (length_answer S' T' samples n') length_ignores refl
    where
      go : (x : Result ℕ Refusal) → length_answer S T samples n ≡ x → length_answer S' T' samples n' ≡ x → packed S T samples n room ≡ packed S' T' samples n' room
      go (Ok m) p q = rw (p, q)
      go (Err w) p q = rw (p, q)

  -- and so is what the output holds
  pub output_ignores : (room : ℕ) (out : List ℕ) → out_after S T samples (packed S T samples n room) out ≡ out_after S' T' samples (packed S' T' samples n' room) out
  unfolding out_after packed
  output_ignores room out = ap (λ (x : Result ℕ Refusal). out_after S T samples x out) (packed_ignores room) ∙ go (settings_legal S) refl
    where
      by_answer : file S T samples ≡ file S' T' samples → (x : Result ℕ Refusal) → out_after S T samples x out ≡ out_after S' T' samples x out
      by_answer e (Ok m) = rw e
      by_answer e (Err w) = refl

      go : (b : Bool) → settings_legal S ≡ b → out_after S T samples (packed S' T' samples n' room) out ≡ out_after S' T' samples (packed S' T' samples n' room) out
      go true e = by_answer (file_same e) (packed S' T' samples n' room)
      go false e = rw (illegal S' T' n' (sym legal_same ∙ e))

-- The header both ways: what is written for legal settings is read back to its last bit, and what is read was written so and by no other settings.
use Rattle.std.specs.Prelude.{◌≡◌, refl, Bool, true, false, cond, ◌&&◌, List, [], ◌∷◌, ◌++◌, ℕ, ◌*◌, ◌%◌, ◌≤◌, ℤ, length}
use Rattle.std.proofs.Common.{sym, ap, ◌∙◌, append_assoc, arith, length-append}
use Rattle.bitstream.specs.Stream.{bits, filled}
use Rattle.bitstream.proofs.Laws.{filled_whole, absurd_path}
use Rattle.refusals.specs.Reading.{Read, got, refused, and_then}
use Rattle.settings.specs.declared.Image.{Image}
use Rattle.settings.specs.declared.Predictor.{Predictor}
use Rattle.settings.specs.declared.Coder.{Coder}
use Rattle.settings.specs.declared.Settings.{Settings}
use Rattle.settings.specs.Lists.{join}
use Rattle.settings.specs.Legal.{image_legal, predictor_legal, coder_legal, settings_legal, limited}
use Rattle.settings.specs.LegalLaws.{legal_settings}
use Rattle.settings.specs.Tables.{table_stride, entry, backward, component_count, every, weight_legal, band_legal, tables_legal}
use Rattle.settings.specs.TableLaws.{legal_tables}
use Rattle.settings.specs.Truths.{parts, whole}
use Rattle.header.specs.Fields.{fields}
use Rattle.header.specs.Parts.{image_fields, predictor_fields, coder_fields, used_image, used_predictor, used_coder}
use Rattle.header.specs.Tables.{twos, weight_table, accumulator_table, components_before, used, slots, used_tables, tables_of}
use Rattle.header.specs.Write.{weight_part, accumulator_part, header, used_settings}
use Rattle.header.specs.Read.{read_image, read_predictor, read_weights, read_coder, read_accumulators, Header, read_header}
use Rattle.header.specs.PartLaws.{length_image, length_predictor, length_coder, not_or_unused, image_written, predictor_written, coder_written, image_legal_used, predictor_legal_used, coder_legal_used}
use Rattle.header.specs.TableLaws.{tables_read, weights_written, accumulators_written, tables_of_legal, tables_of_used, length_tables_of, weights_used, accumulators_used, entries_kept_legal}
use Rattle.header.specs.ReadLaws.{ImageIs, PredictorIs, WeightsAre, CoderIs, AccumulatorsAre, image_read_lem, read_image_lem, predictor_read_lem, read_predictor_lem, coder_read_lem, read_coder_lem, weights_read, read_weights_lem, accumulators_read, read_accumulators_lem}

-- ---- the settings in use

pub used_legal : (S : Settings) → settings_legal (used_settings S) ≡ settings_legal S
unfolding settings_legal used_settings
used_legal S = rw (image_legal_used S.image, predictor_legal_used S.image S.predictor, coder_legal_used S.image S.coder)

pub used_tables_same : (S : Settings) (tables : List ℤ) → used_tables (used_settings S) tables ≡ used_tables S tables
unfolding used_tables slots used used_settings used_image used_predictor used_coder component_count backward
used_tables_same S tables = refl

band_legal_used : (S : Settings) (tables : List ℤ) (z : ℕ) → band_legal (used_settings S) tables z ≡ band_legal S tables z
unfolding band_legal used_settings used_image used_predictor used_coder component_count backward
band_legal_used S tables z =
    rw (not_or_unused S.predictor.custom (λ q. every (component_count S.predictor z) (λ i. weight_legal q (entry tables z i))) S.predictor.precision 0)

pub tables_legal_used : (S : Settings) (tables : List ℤ) → tables_legal (used_settings S) tables ≡ tables_legal S tables
unfolding tables_legal used_settings used_image
tables_legal_used S tables = ap (every S.image.nz) (λ i z. band_legal_used S tables z i)

weights_precise : (P : Predictor) (nz : ℕ) (tables : List ℤ) → P.custom ≡ true → weight_table (used_predictor P) nz tables ≡ weight_table P nz tables
unfolding weight_table used_predictor component_count backward
weights_precise P nz tables c =
    let q : cond P.custom P.precision 0 ≡ P.precision = rw c in
    ap (λ (q : ℕ). join (λ z. join (λ i. bits q (twos q (entry tables z i))) 0 (component_count P z)) 0 nz) q

-- a table that is there is the one meant
filled_if : (b : Bool) (t u : List Bool) → (b ≡ true → t ≡ u) → cond b (filled 8 t) [] ≡ cond b (filled 8 u) []
filled_if true t u e = ap (filled 8) (e refl)
filled_if false t u e = refl

cond_true : {A : Type 0} (b : Bool) (x y : A) → b ≡ true → cond b x y ≡ x
cond_true b x y e = rw e

weight_part_used : (S : Settings) (tables : List ℤ) → S.predictor.bands ≤ 15 → weight_part (used_settings S) (used_tables S tables) ≡ weight_part S tables
unfolding weight_part used_settings used_image used_predictor
weight_part_used S tables few =
    filled_if S.predictor.custom _ _ (λ c. weights_precise S.predictor S.image.nz (used_tables S tables) c ∙ weights_used S few tables c)

accumulator_part_used : (S : Settings) (tables : List ℤ) → S.predictor.bands ≤ 15 → accumulator_part (used_settings S) (used_tables S tables) ≡ accumulator_part S tables
unfolding accumulator_part used_settings used_image used_coder
accumulator_part_used S tables few = filled_if S.coder.tabled _ _ (accumulators_used S few tables)

pub header_used : (S : Settings) (tables : List ℤ) → settings_legal S ≡ true → header (used_settings S) (used_tables S tables) ≡ header S tables
unfolding header used_settings
header_used S tables e =
    let few = (legal_settings S e).predictor.bands_most in
    rw (weight_part_used S tables few, accumulator_part_used S tables few, image_written S.image 0, predictor_written S.predictor, coder_written S.coder)

pub used_tables_legal : (S : Settings) (tables : List ℤ) → settings_legal S ≡ true → tables_legal S tables ≡ true → tables_legal (used_settings S) (used_tables S tables) ≡ true
used_tables_legal S tables e t = tables_legal_used S (used_tables S tables) ∙ entries_kept_legal S (legal_settings S e).predictor.bands_most tables t

-- ---- whole bytes

whole_if : (b : Bool) (t : List Bool) → length (cond b (filled 8 t) []) % 8 ≡ 0
whole_if true t = filled_whole 8 t (omega arith)
whole_if false t = refl

weight_part_whole : (S : Settings) (tables : List ℤ) → length (weight_part S tables) % 8 ≡ 0
unfolding weight_part
weight_part_whole S tables = whole_if S.predictor.custom _

accumulator_part_whole : (S : Settings) (tables : List ℤ) → length (accumulator_part S tables) % 8 ≡ 0
unfolding accumulator_part
accumulator_part_whole S tables = whole_if S.coder.tabled _

pub header_whole : (S : Settings) (tables : List ℤ) → length (header S tables) % 8 ≡ 0
unfolding header
header_whole S tables =
    simp (length-append, length_image, length_predictor, length_coder) (omega (arith, weight_part_whole S tables, accumulator_part_whole S tables))

-- ---- what is written is read

legal_parts : (S : Settings) → settings_legal S ≡ true → (image_legal S.image && predictor_legal S.image S.predictor && coder_legal S.image S.coder) ≡ true
unfolding settings_legal
legal_parts S e = e

tables_back : (S : Settings) (tables : List ℤ) → settings_legal S ≡ true → tables_legal S tables ≡ true
    → tables_of (used_settings S) (cond S.predictor.custom (weight_table S.predictor S.image.nz tables) []) (cond S.coder.tabled (accumulator_table S.image.nz tables) []) ≡ used_tables S tables
unfolding used_settings used_image used_predictor used_coder
tables_back S tables e t =
    tables_read (used_settings S) tables _ _ (legal_settings (used_settings S) (used_legal S ∙ e)) (tables_legal_used S tables ∙ t)
    (λ c. cond_true S.predictor.custom _ [] c ∙ sym (weights_precise S.predictor S.image.nz tables c))
    (λ c. cond_true S.coder.tabled _ [] c)
    ∙ used_tables_same S tables

in_parts : (S : Settings) (tables : List ℤ) (r : List Bool)
    → header S tables ++ r ≡ fields (image_fields S.image 0) ++ (fields (predictor_fields S.predictor) ++ (weight_part S tables ++ (fields (coder_fields S.coder) ++ (accumulator_part S tables ++ r))))
unfolding header
in_parts S tables r = simp append_assoc

pub header_read : (S : Settings) (tables : List ℤ) (r : List Bool) → settings_legal S ≡ true → limited S.image ≡ true → tables_legal S tables ≡ true
    → read_header (header S tables ++ r) ≡ got (record { settings = used_settings S; tables = used_tables S tables }) r
unfolding read_header used_settings
header_read S tables r e h t =
    let I : Image = S.image in
    let P : Predictor = S.predictor in
    let C : Coder = S.coder in
    let l = legal_settings S e in
    let k = parts (image_legal I) (predictor_legal I P ∷ coder_legal I C ∷ []) (legal_parts S e) in
    rw (
      in_parts S tables r,
      image_read_lem I _ k.0 h,
      predictor_read_lem I P _ k.1.0,
      weights_read S tables _,
      coder_read_lem I C _ k.0 k.1.1.0,
      accumulators_read S tables r l.image.depth_most (λ c z m. ((legal_tables S tables t z m).accumulator c).most),
    )
    (ap (λ (T : List ℤ). got (record { settings = used_settings S; tables = T }) r) (tables_back S tables e t))

-- ---- what is read was written

pub on_got : {A B Q : Type 0} (x : Read A) (f : A → List Bool → Read B) (b : B) (r : List Bool) → and_then x f ≡ got b r → ((a : A) (l : List Bool) → x ≡ got a l → f a l ≡ got b r → Q) → Q
on_got (got a l) f b r e q = q a l refl e
on_got (refused why) f b r e q = absurd_path (cc)

pub record HeaderIs (h : Header) (l r : List Bool) : Type 0 where
  pub legal : settings_legal h.settings ≡ true
  pub limited : limited h.settings.image ≡ true
  pub entries : tables_legal h.settings h.tables ≡ true
  pub same : l ≡ header h.settings h.tables ++ r
  pub settings : used_settings h.settings ≡ h.settings
  pub tables : used_tables h.settings h.tables ≡ h.tables
  pub long : length h.tables ≡ table_stride * h.settings.image.nz

-- the parts that were read, put together
module _ (I : Image) (P : Predictor) (C : Coder) (weights accumulators : List Bool) where
  abbrev S : Settings
  S = record { image = I; predictor = P; coder = C }

  weight_part_read : P.bands ≤ 15 → (P.custom ≡ true → length weights ≡ P.precision * components_before P I.nz) → weight_part S (tables_of S weights accumulators) ≡ cond P.custom (filled 8 weights) []
  unfolding weight_part
  weight_part_read few h = filled_if P.custom _ weights (λ c. weights_written S few weights accumulators c (h c))

  accumulator_part_read : P.bands ≤ 15 → (C.tabled ≡ true → length accumulators ≡ 4 * I.nz) → accumulator_part S (tables_of S weights accumulators) ≡ cond C.tabled (filled 8 accumulators) []
  unfolding accumulator_part
  accumulator_part_read few h = filled_if C.tabled _ accumulators (λ t. accumulators_written S few weights accumulators t (h t))

  settings_are : used_image I ≡ I → used_predictor P ≡ P → used_coder C ≡ C → used_settings S ≡ S
  unfolding used_settings
  settings_are i p c = λ j. record { image = i j; predictor = p j; coder = c j }

  all_legal : image_legal I ≡ true → predictor_legal I P ≡ true → coder_legal I C ≡ true → settings_legal S ≡ true
  unfolding settings_legal
  all_legal i p c = whole (image_legal I) (predictor_legal I P ∷ coder_legal I C ∷ []) (i, (p, (c, tt)))

  parts_read : (l l₁ l₂ l₃ l₄ r : List Bool) → ImageIs I l l₁ → PredictorIs I P l₁ l₂ → WeightsAre I P weights l₂ l₃ → CoderIs I C l₃ l₄ → AccumulatorsAre I C accumulators l₄ r
      → HeaderIs (record { settings = S; tables = tables_of S weights accumulators }) l r
  parts_read l l₁ l₂ l₃ l₄ r i p w c a =
      let legal = all_legal i.legal p.legal c.legal in
      let facts = legal_settings S legal in
      let few = facts.predictor.bands_most in
      record {
        legal = legal;
        limited = i.limits;
        entries = tables_of_legal S weights accumulators facts a.most;
        same =
            rw (
              in_parts S (tables_of S weights accumulators) r,
              weight_part_read few w.long,
              accumulator_part_read few a.long,
              ← a.same,
              ← c.same,
              ← w.same,
              ← p.same,
            ) i.same;
        settings = settings_are i.used p.used c.used;
        tables = tables_of_used S weights accumulators;
        long = length_tables_of S weights accumulators;
      }

pub read_header_lem : (l r : List Bool) (h : Header) → read_header l ≡ got h r → HeaderIs h l r
unfolding read_header
read_header_lem l r h e =
    on_got (read_image l) _ h r e (λ I l₁ i e₁.
    on_got (read_predictor I l₁) _ h r e₁ (λ P l₂ p e₂.
    on_got (read_weights I P l₂) _ h r e₂ (λ weights l₃ w e₃.
    on_got (read_coder I l₃) _ h r e₃ (λ C l₄ c e₄.
    on_got (read_accumulators I C l₄) _ h r e₄ (λ accumulators l₅ a e₅.
    let S : Settings = record { image = I; predictor = P; coder = C } in
    let T : Header = record { settings = S; tables = tables_of S weights accumulators } in
    let g : got T l₅ ≡ got h r = e₅ in
    let q : T ≡ h = cc in
    let s : l₅ ≡ r = cc in
    rw (← q, ← s)
    (parts_read I P C weights accumulators l l₁ l₂ l₃ l₄ l₅ (read_image_lem l l₁ I i) (read_predictor_lem I l₁ l₂ P p) (read_weights_lem I P l₂ l₃ weights w) (read_coder_lem I l₃ l₄ C c)
    (read_accumulators_lem I C l₄ l₅ accumulators a)))))))

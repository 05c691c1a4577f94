-- Opening, as its caller sees it: the answer tells what was read, and the areas hold the tables and the samples from their start on.
use Rattle.std.specs.Prelude.{◌≡◌, refl, Bool, List, ℕ, ◌*◌, ◌≤◌, ℤ, length, take, Result, Ok, Err}
use Rattle.std.proofs.Common.{sym, ◌∙◌, ap, ap₂, subst, arith, length-append, take_at}
use Rattle.bitstream.specs.Stream.{Bytes}
use Rattle.settings.specs.declared.Settings.{Settings}
use Rattle.refusals.specs.declared.Refusal.{Refusal}
use Rattle.settings.specs.Legal.{sample_count}
use Rattle.settings.specs.LegalLaws.{legal_settings}
use Rattle.settings.specs.Tables.{table_stride, scratch_stride, tables_legal}
use Rattle.settings.specs.Fine.{Fine}
use Rattle.refusals.specs.Reading.{Read, got, refused}
use Rattle.header.specs.Tables.{used_tables}
use Rattle.header.specs.Write.{used_settings}
use Rattle.body.specs.BodyLaws.{Good}
use Rattle.cube.specs.File.{file}
use Rattle.cube.specs.Open.{Cube, opened}
use Rattle.cube.specs.Areas.{filled_from, open_answer, image_after, tables_after, lent_of, Opens}
use Rattle.cube.specs.Terms.{Allowed, Enough, OpenedTo}
use Rattle.cube.specs.FileLaws.{opened_file, file_opened}
use Rattle.cube.specs.IgnoreLaws.{tables_front, tables_kept, file_used}
use Rattle.cube.specs.PackLaws.{allowed_fine}

-- ---- the answer tells what was read

pub answer_refused : (x : Read Cube) (w : Refusal) → open_answer x ≡ Err w → x ≡ refused w
unfolding open_answer
answer_refused (got c r) w e = let z : ◌≡◌ {A = ℕ} 0 1 = cc in absurd (omega arith)
answer_refused (refused v) w e = cc

pub answer_settings : (x : Read Cube) (S : Settings) → open_answer x ≡ Ok S → (c : Cube) × (l : List Bool) × (x ≡ got c l) × (c.settings ≡ S)
unfolding open_answer
answer_settings (got c r) S e = (c, r, refl, cc)
answer_settings (refused v) S e = let z : ◌≡◌ {A = ℕ} 0 1 = cc in absurd (omega arith)

-- ---- a file opens to what was packed, and what opens is a file

pub opens_allowed : {bytes : List ℕ} {scratch area image : List ℤ} {r : Result Settings Refusal} {t i : List ℤ} → Opens bytes scratch area image r t i
    → (S : Settings) (tables samples : List ℤ) → Allowed S tables samples → Enough S (lent_of scratch area image) → file S tables samples ≡ bytes
    → (r ≡ Ok (used_settings S)) × (t ≡ filled_from (used_tables S tables) area) × (i ≡ filled_from samples image)
unfolding open_answer tables_after image_after
opens_allowed {bytes} {scratch} {area} {image} p S tables samples a m f =
    let lent = lent_of scratch area image in
    let e : opened lent bytes ≡ got (record { settings = used_settings S; tables = used_tables S tables; samples = samples }) _ =
    ap (opened lent) (sym f) ∙ opened_file S tables samples lent a.legal a.within a.entries a.good m in
    (p.answer ∙ ap open_answer e, p.table_area ∙ ap (λ (x : Read Cube). tables_after x area) e, p.image_area ∙ ap (λ (x : Read Cube). image_after x image) e)

pub opens_file : {bytes : List ℕ} {scratch area image : List ℤ} {r : Result Settings Refusal} {t i : List ℤ} → Bytes bytes → Opens bytes scratch area image r t i
    → (S : Settings) → r ≡ Ok S → (tables : List ℤ) × (samples : List ℤ) × OpenedTo bytes S tables samples area image t i
unfolding tables_after image_after
opens_file {bytes} {scratch} {area} {image} {r} {t} {i} o p S e =
    let a = answer_settings (opened (lent_of scratch area image) bytes) S (sym p.answer ∙ e) in
    let c = a.0 in
    let x = a.2 in
    let f = file_opened (lent_of scratch area image) bytes c a.1 o x in
    let k = f.0 in (
      c.tables,
      c.samples,
      subst (λ (T : Settings). OpenedTo bytes T c.tables c.samples area image t i) a.3
          (record {
            allowed = record { legal = k.legal; within = k.within; entries = k.entries; good = k.samples };
            named = k.used_settings_lem;
            used = k.used_tables_lem;
            long = k.long;
            tables_are = p.table_area ∙ ap (λ (y : Read Cube). tables_after y area) x;
            samples_are = p.image_area ∙ ap (λ (y : Read Cube). image_after y image) x;
            file_is = f.1;
          }),
    )

-- ---- what the areas hold

module _ {bytes : List ℕ} {S : Settings} {tables samples area image t i : List ℤ} (d : OpenedTo bytes S tables samples area image t i) where
  pub tables_held : take (table_stride * S.image.nz) t ≡ tables
  tables_held = ap (take (table_stride * S.image.nz)) d.tables_are ∙ take_at tables _ (table_stride * S.image.nz) d.long

  pub samples_held : take (sample_count S.image) i ≡ samples
  samples_held = ap (take (sample_count S.image)) d.samples_are ∙ take_at samples _ (sample_count S.image) d.allowed.good.long

  -- the whole table area serves as well as its front
  area_used : used_tables S t ≡ used_tables S tables
  area_used = ap (used_tables S) d.tables_are ∙ tables_front S tables _ d.long

  -- the file of what the areas hold
  pub file_held : file S t (take (sample_count S.image) i) ≡ bytes
  file_held =
      sym (file_used S t _ d.allowed.legal)
      ∙ ap₂ (file (used_settings S)) area_used samples_held ∙ file_used S tables samples d.allowed.legal ∙ d.file_is

  pub again_fine : (scratch : ℕ) → scratch_stride * S.image.nz ≤ scratch → Fine S t (take (sample_count S.image) i) scratch
  again_fine scratch m =
      allowed_fine S t _ scratch
      (record {
        legal = d.allowed.legal;
        within = d.allowed.within;
        entries = sym (tables_kept S t few) ∙ ap (tables_legal S) area_used ∙ tables_kept S tables few ∙ d.allowed.entries;
        good = subst (Good S) (sym samples_held) d.allowed.good;
      })
      (record { scratch_holds = m; tables_hold = let l = d.long in let e = ap length d.tables_are ∙ length-append tables _ in omega arith })
    where
      few : S.predictor.bands ≤ 15
      few = (legal_settings S d.allowed.legal).predictor.bands_most

-- What a published file can tell of a part of the image that was blanked before it was packed, said of the calls.
use Rattle.std.specs.Prelude.{◌≡◌, refl, true, false, cond, ℕ, suc, ◌+◌, ◌*◌, ◌<◌, ◌≤◌, nat_abs, length, take, Ok}
use Rattle.std.proofs.Common.{sym, ◌∙◌, arith, take_at}
use Rattle.std.proofs.Math.Path.{ap}
use Rattle.std.proofs.Math.Bool.{Bool}
use mathlib.Core.List.{List, ◌++◌, append_assoc}
use Rattle.std.proofs.Math.IntN.{ℤ}
use Rattle.bitstream.specs.Stream.{unpack, zeros, filling}
use Rattle.settings.specs.declared.Settings.{Settings}
use Rattle.settings.specs.Tables.{entry, parameter_slot}
use Rattle.settings.specs.LegalLaws.{LegalSettings, legal_settings}
use Rattle.settings.specs.TableLaws.{LegalBand, legal_tables}
use Rattle.predictor.specs.Differences.{Image, image_of}
use Rattle.predictor.specs.Band.{weights_at, mapped_at}
use Rattle.predictor.specs.Each.{Each}
use Rattle.predictor.specs.WeightLaws.{InWeights, weights_at_range}
use Rattle.predictor.specs.MappingLaws.{mapped_at_small}
use Rattle.coder.specs.Statistics.{initial_parameter, statistics_at}
use Rattle.coder.specs.StatisticsLaws.{Tame, Begins, statistics_tame}
use Rattle.header.specs.Write.{header}
use Rattle.body.specs.Order.{Place, band_sequential, band_interleaved, order}
use Rattle.body.specs.Body.{codes, body}
use Rattle.body.specs.Reach.{SameBands, SameRows, Begin}
use Rattle.body.proofs.Reach.{mapped_of_bands, mapped_of_rows, bodies_of_bands, bodies_of_rows}
use Rattle.cube.specs.File.{file}
use Rattle.cube.specs.Areas.{Packs}
use Rattle.cube.specs.Terms.{Allowed}
use Rattle.cube.specs.FileLaws.{file_bits_lem, file_parts}
use Rattle.cube.specs.PackLaws.{fine_allowed}
use Rattle.cube.specs.Demands.{packs_exactly}

-- legal settings and a legal band's slots are what the statistics begin from
legal_begins : (S : Settings) (tables : List ℤ) (z : ℕ) → LegalSettings S → LegalBand S tables z → Begins S tables z
unfolding initial_parameter
legal_begins S tables z l b = record { rescaled = l.coder.rescaling_above; parameter_fits = go S.coder.tabled refl }
  where
    go : (c : Bool) → S.coder.tabled ≡ c → cond c (nat_abs (entry tables z parameter_slot)) S.coder.constant + 2 ≤ S.image.depth
    go true e = let m = (b.accumulator e).most in let d = l.image.depth_least in omega arith
    go false e = l.coder.constant_most e

-- ---- what was packed

module _ {S : Settings} {tables samples scratch : List ℤ} {out o : List ℕ} {n : ℕ} (p : Packs S tables samples scratch out (Ok n) o) where
  packed_allowed : Allowed S tables samples
  packed_allowed = fine_allowed S tables samples (length scratch) ((packs_exactly p).1 n refl).0

  wide : 0 < S.image.nx
  wide = let h = (legal_settings S packed_allowed.legal).image.nx_least in omega arith

  -- the output's bits are header, body and fill
  packed_bits : unpack (take n o)
      ≡ header S tables ++ (body S tables samples ++ zeros (filling (8 * S.image.word) (length (header S tables ++ body S tables samples))))
  packed_bits =
      let k = (packs_exactly p).1 n refl in
      let s = ((packs_exactly p).0 k.0 (let e = k.1 in let l = k.2 in omega arith)).1 in
      let w = (legal_settings S packed_allowed.legal).image.word_least in
      ap unpack (ap (take n) s ∙ take_at (file S tables samples) _ n (sym k.1))
      ∙ file_bits_lem S tables samples (omega arith) ∙ file_parts S tables samples

  -- "each weight stays in its range": before every value of every band, and behind the last
  pub weights_stay : (z t : ℕ) → z < S.image.nz → Each (InWeights S.predictor.resolution) (weights_at S tables (image_of S.image samples) z t)
  weights_stay z t h =
      weights_at_range S tables (image_of S.image samples) z t (legal_settings S packed_allowed.legal) (legal_tables S tables packed_allowed.entries z h)

  -- "each Σ within 0 to 2^D·Γ after every value": and at the start
  pub sums_stay : (z t : ℕ) → z < S.image.nz
      → Tame S.image.depth S.coder.rescaling (statistics_at S tables z (mapped_at S tables (image_of S.image samples) z) t)
  unfolding image_of
  sums_stay z t h =
      let l = legal_settings S packed_allowed.legal in
      let d = l.image.depth_least in
      statistics_tame S tables z (mapped_at S tables (image_of S.image samples) z) (legal_begins S tables z l (legal_tables S tables packed_allowed.entries z h))
      (λ i. mapped_at_small S (omega arith) tables (image_of S.image samples) z i (λ y _. packed_allowed.good.in_range_lem _) (packed_allowed.good.in_range_lem _)) t

-- ---- two images with the same settings and tables

-- what stands before a shared beginning of the bodies is shared too
alike : (a b c c' d d' : List Bool) {x x' : List Bool} → x ≡ a ++ ((b ++ c) ++ d) → x' ≡ a ++ ((b ++ c') ++ d')
    → take (length (a ++ b)) x ≡ take (length (a ++ b)) x'
alike a b c c' d d' e e' = cut c d e ∙ sym (cut c' d' e')
  where
    cut : (c d : List Bool) {x : List Bool} → x ≡ a ++ ((b ++ c) ++ d) → take (length (a ++ b)) x ≡ a ++ b
    cut c d e =
        ap (take (length (a ++ b))) (e ∙ ap (λ (l : List Bool). a ++ l) (append_assoc b c d) ∙ sym (append_assoc a b (c ++ d)))
        ∙ take_at (a ++ b) (c ++ d) (length (a ++ b)) refl

module _ {S : Settings} {tables x x' scratch scratch' : List ℤ} {out out' o o' : List ℕ} {n n' : ℕ}
    (p : Packs S tables x scratch out (Ok n) o) (p' : Packs S tables x' scratch' out' (Ok n') o') where
  abbrev X : Image
  X = image_of S.image x

  abbrev X' : Image
  X' = image_of S.image x'

  -- "equal samples in bands 0 to z have equal mapped values there, whatever lies above"
  pub packed_bands_map_alike : (z : ℕ) → SameBands (S.image.nx * S.image.ny) z X X'
      → (b t : ℕ) → b ≤ z → t < S.image.nx * S.image.ny → mapped_at S tables X b t ≡ mapped_at S tables X' b t
  packed_bands_map_alike z same = mapped_of_bands S (wide p) tables X X' (S.image.nx * S.image.ny) z same

  -- "the same for rows 0 to y of all bands"
  pub packed_rows_map_alike : (y : ℕ) → SameRows S.image.nx S.image.nz y X X'
      → (b t : ℕ) → b < S.image.nz → t < S.image.nx * suc y → mapped_at S tables X b t ≡ mapped_at S tables X' b t
  packed_rows_map_alike y same = mapped_of_rows S (wide p) tables X X' y same

  files_alike : (ps : List Place) → Begin S (wide p) tables X X' ps (order S.image)
      → take (length (header S tables ++ codes S tables X ps)) (unpack (take n o)) ≡ take (length (header S tables ++ codes S tables X ps)) (unpack (take n' o'))
  unfolding body
  files_alike ps b =
      let fill : List ℤ → List Bool = λ y. zeros (filling (8 * S.image.word) (length (header S tables ++ body S tables y))) in
      alike (header S tables) (codes S tables X ps) b.rest b.rest' (fill x) (fill x')
      (packed_bits p ∙ ap (λ (l : List Bool). header S tables ++ (l ++ fill x)) b.first)
      (packed_bits p' ∙ ap (λ (l : List Bool). header S tables ++ (l ++ fill x')) b.second)

  -- band-sequential: the files agree in every bit up to the last codeword of band z
  pub packed_bands_begin_alike : S.image.sequential ≡ true → (z : ℕ) → z < S.image.nz → SameBands (S.image.nx * S.image.ny) z X X'
      → take (length (header S tables ++ codes S tables X (band_sequential S.image.nx S.image.ny (suc z)))) (unpack (take n o))
      ≡ take (length (header S tables ++ codes S tables X (band_sequential S.image.nx S.image.ny (suc z)))) (unpack (take n' o'))
  packed_bands_begin_alike q z h same = files_alike _ (bodies_of_bands S (wide p) tables X X' q z h same)

  -- interleaved: the files agree in every bit up to the last codeword of row y
  pub packed_rows_begin_alike : S.image.sequential ≡ false → (y : ℕ) → y < S.image.ny → SameRows S.image.nx S.image.nz y X X'
      → take (length (header S tables ++ codes S tables X (band_interleaved S.image.nx (suc y) S.image.nz S.image.interleave))) (unpack (take n o))
      ≡ take (length (header S tables ++ codes S tables X (band_interleaved S.image.nx (suc y) S.image.nz S.image.interleave))) (unpack (take n' o'))
  packed_rows_begin_alike q y h same = files_alike _ (bodies_of_rows S (wide p) tables X X' q y h same)

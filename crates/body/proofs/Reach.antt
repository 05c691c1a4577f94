-- What a value can reach: its own band and the bands before it, up to its own place in each, and nothing else.
-- Said over the image I that is predicted from, whatever that image is; and each weight and Σ stays in its range.
use Rattle.body.specs.Reach.{Begin, SameBands, SameReach, SameRows}
use Rattle.std.specs.Prelude.{◌≡◌, Bool, ℤ}
use Rattle.std.proofs.Math.Path.{refl, ap₂}
use Rattle.std.proofs.Common.{sym, ◌∙◌, ap, zero-add, arith}
use Rattle.std.proofs.Math.Bool.{true, false}
use mathlib.Core.List.{List, [], ◌∷◌, ◌++◌, append_assoc}
use Prim.Native.Nat.{ℕ, suc, ◌-◌, ◌*◌, ◌<◌, ◌≤◌}
use Rattle.settings.specs.declared.Image as settings
use Rattle.settings.specs.declared.Settings.{Settings}
use Rattle.settings.specs.Lists.{join}
use Rattle.settings.specs.ListLaws.{join_append}
use Rattle.predictor.specs.Differences.{Image}
use Rattle.predictor.specs.Band.{mapped_at}
use Rattle.predictor.proofs.Causality.{mapped_at_same}
use Rattle.coder.specs.StatisticsLaws.{statistics_same}
use Rattle.coder.specs.Encoding.{encode, encode_at}
use Rattle.body.specs.Order.{Place, row_of, band_sequential, frame_of, band_interleaved, order}
use Rattle.body.specs.OrderLaws.{All, all_map, Inside, inside_order}
use Rattle.body.specs.Body.{code, codes}

-- a join cut behind its first k parts
cut : (f : ℕ → List Place) (n k : ℕ) → k ≤ n → join f 0 n ≡ join f 0 k ++ join f k (n - k)
cut f n k h = ap (join f 0) (omega arith) ∙ join_append f 0 k (n - k) ∙ rw (zero-add k)

module _ (S : Settings) (wide : 0 < S.image.nx) (tables : List ℤ) (I J : Image) where
  -- ---- one value

  -- a mapped value comes from what it can reach
  pub mapped_reaches_back : (z t : ℕ) → SameReach z t I J → mapped_at S tables I z t ≡ mapped_at S tables J z t
  mapped_reaches_back z t h = mapped_at_same S wide I J tables z t h

  -- and so do its code bits
  pub code_reaches_back : (p : Place) → SameReach p.z p.t I J → code S tables I p ≡ code S tables J p
  unfolding code encode_at
  code_reaches_back p h =
      ap₂ (encode S p.t)
      (statistics_same S tables p.z (mapped_at S tables I p.z) (mapped_at S tables J p.z) p.t
      (λ i l. mapped_reaches_back p.z i (λ b j k m. h b j k (omega arith))))
      (mapped_reaches_back p.z p.t h)

  -- ---- bands 0 to z, whatever lies above

  module _ (area z : ℕ) (same : SameBands area z I J) where
    pub mapped_of_bands : (b t : ℕ) → b ≤ z → t < area → mapped_at S tables I b t ≡ mapped_at S tables J b t
    mapped_of_bands b t h k = mapped_reaches_back b t (λ c i l m. same c i (omega arith) (omega arith))

    pub code_of_bands : (p : Place) → p.z ≤ z → p.t < area → code S tables I p ≡ code S tables J p
    code_of_bands p h k = code_reaches_back p (λ c i l m. same c i (omega arith) (omega arith))

  -- ---- rows 0 to y of all bands, whatever lies below

  module _ (y : ℕ) (same : SameRows S.image.nx S.image.nz y I J) where
    pub mapped_of_rows : (b t : ℕ) → b < S.image.nz → t < S.image.nx * suc y → mapped_at S tables I b t ≡ mapped_at S tables J b t
    mapped_of_rows b t h k = mapped_reaches_back b t (λ c i l m. same c i (omega arith) (omega arith))

    pub code_of_rows : (p : Place) → p.z < S.image.nz → p.t < S.image.nx * suc y → code S tables I p ≡ code S tables J p
    code_of_rows p h k = code_reaches_back p (λ c i l m. same c i (omega arith) (omega arith))

  -- ---- the body's bits

  codes_same : (ps : List Place) → All (λ p. code S tables I p ≡ code S tables J p) ps → codes S tables I ps ≡ codes S tables J ps
  unfolding codes
  codes_same [] h = refl
  codes_same (p ∷ ps) h = ap₂ (λ (k l : List Bool). k ++ l) h.0 (codes_same ps h.1)

  codes_append : (K : Image) (ps qs : List Place) → codes S tables K (ps ++ qs) ≡ codes S tables K ps ++ codes S tables K qs
  unfolding codes
  codes_append K [] qs = refl
  codes_append K (p ∷ ps) qs = rw (codes_append K ps qs, append_assoc)

  begin : (ps qs all : List Place) → all ≡ ps ++ qs → All (λ p. code S tables I p ≡ code S tables J p) ps → Begin S wide tables I J ps all
  begin ps qs all e h = record {
    rest = codes S tables I qs;
    rest' = codes S tables J qs;
    first = ap (codes S tables I) e ∙ codes_append I ps qs;
    second = ap (codes S tables J) e ∙ codes_append J ps qs ∙ ap (λ (l : List Bool). l ++ codes S tables J qs) (sym (codes_same ps h));
  }

  -- the image with other counts of rows and bands: its order has the places of the first of them
  abbrev sized : Bool → ℕ → ℕ → settings.Image
  sized sequential ny nz = record {
    user = S.image.user;
    nx = S.image.nx;
    ny = ny;
    nz = nz;
    signed = S.image.signed;
    depth = S.image.depth;
    sequential = sequential;
    interleave = S.image.interleave;
    word = S.image.word;
  }

  -- band-sequential: the bodies are the same up to the last codeword of band z
  pub bodies_of_bands : S.image.sequential ≡ true → (z : ℕ) → z < S.image.nz → SameBands (S.image.nx * S.image.ny) z I J
      → Begin S wide tables I J (band_sequential S.image.nx S.image.ny (suc z)) (order S.image)
  unfolding order band_sequential
  bodies_of_bands q z h same =
      let bands : ℕ → List Place = λ b. join (λ y. row_of S.image.nx y b 1) 0 S.image.ny in
      begin (join bands 0 (suc z)) (join bands (suc z) (S.image.nz - suc z)) _ (rw q (cut bands S.image.nz (suc z) h))
      (all_map {F = Inside (sized true S.image.ny (suc z))} (join bands 0 (suc z))
      (λ p i. code_of_bands (S.image.nx * S.image.ny) z same p (let b = i.band in omega arith) i.time)
      (inside_order (sized true S.image.ny (suc z))))

  -- interleaved: the bodies are the same up to the last codeword of row y
  pub bodies_of_rows : S.image.sequential ≡ false → (y : ℕ) → y < S.image.ny → SameRows S.image.nx S.image.nz y I J
      → Begin S wide tables I J (band_interleaved S.image.nx (suc y) S.image.nz S.image.interleave) (order S.image)
  unfolding order band_interleaved
  bodies_of_rows q y h same =
      let frames : ℕ → List Place = λ r. frame_of S.image.nx S.image.nz S.image.interleave r in
      begin (join frames 0 (suc y)) (join frames (suc y) (S.image.ny - suc y)) _ (rw q (cut frames S.image.ny (suc y) h))
      (all_map {F = Inside (sized false (suc y) S.image.nz)} (join frames 0 (suc y)) (λ p i. code_of_rows y same p i.band i.time)
      (inside_order (sized false (suc y) S.image.nz)))

-- The rows by number: each lies in the image, and together they are the coding order.
use Rattle.std.proofs.Common.{◌≡◌, refl, sym, ◌∙◌, ap, ap₂, Bool, true, false, cond, List, ◌++◌, ℕ, zero, suc, ◌+◌, ◌-◌, ◌*◌, ◌/◌, ◌%◌, ◌<◌, ◌≤◌, min, suc-mul, mod-lt, div-lt_iff_lt-mul, le-div_iff_mul-le, arith}
use lib.Arith.{digits_div, digits_mod}
use Rattle.settings.specs.declared.Image.{Image}
use Rattle.settings.specs.Lists.{join}
use Rattle.settings.specs.ListLaws.{join_append, join_shift, join_ext, join_last}
use Rattle.body.specs.Order.{Place, column_of, row_of, band_sequential, sub_frames, frame_of, band_interleaved, order}
use Rattle.body_value.specs.declared.plan.Plan.{Plan}
use Rattle.body_value.proofs.Plans.{legal}
use Rattle.body_walk.specs.declared.rows.Row.{Row}
use Rattle.body_walk.specs.Rows.{row_count, row_at, row_places, places_in, InRow}

if_true : {A : Type 0} (c : Bool) (a b : A) → c ≡ true → cond c a b ≡ a
if_true c a b e = ap (λ (x : Bool). cond x a b) e

if_false : {A : Type 0} (c : Bool) (a b : A) → c ≡ false → cond c a b ≡ b
if_false c a b e = ap (λ (x : Bool). cond x a b) e

module _ (I : Image) (n : ℕ) where
  -- the sub-frames of a frame
  abbrev pub frames : ℕ
  frames = sub_frames I.nz I.interleave

  pub count_bands : I.sequential ≡ true → row_count I ≡ I.nz * I.ny
  unfolding row_count
  count_bands e = if_true I.sequential _ _ e

  pub count_frames : I.sequential ≡ false → row_count I ≡ I.ny * sub_frames I.nz I.interleave
  unfolding row_count
  count_frames e = if_false I.sequential _ _ e

  abbrev pub band_row : Row
  band_row = record { y = n % I.ny; from = n / I.ny; to = n / I.ny + 1 }

  abbrev pub frame_row : Row
  frame_row = record {
    y = n / sub_frames I.nz I.interleave;
    from = n % sub_frames I.nz I.interleave * I.interleave;
    to = n % sub_frames I.nz I.interleave * I.interleave + min I.interleave (I.nz - n % sub_frames I.nz I.interleave * I.interleave);
  }

  pub at_band : I.sequential ≡ true → row_at I n ≡ record { y = n % I.ny; from = n / I.ny; to = n / I.ny + 1 }
  unfolding row_at
  at_band e = if_true I.sequential _ _ e

  pub at_frame : I.sequential ≡ false → row_at I n ≡ frame_row
  unfolding row_at
  at_frame e = if_false I.sequential _ _ e

  -- ---- sizes

  pub band_below : 0 < I.ny → n < I.nz * I.ny → n / I.ny < I.nz
  band_below h k = (div-lt_iff_lt-mul h).1 k

  module _ (m : 1 ≤ I.interleave) (z : 0 < I.nz) where
    pub some_frames : 0 < sub_frames I.nz I.interleave
    unfolding sub_frames
    some_frames = (le-div_iff_mul-le {k = I.interleave} (let h : 0 < I.interleave = omega arith in h)).1 (omega arith)

    pub from_below : n % sub_frames I.nz I.interleave * I.interleave < I.nz
    unfolding sub_frames
    from_below =
        let h : 0 < I.interleave = omega arith in
        let i : n % sub_frames I.nz I.interleave < sub_frames I.nz I.interleave = mod-lt n some_frames in
        let j : suc (n % sub_frames I.nz I.interleave) * I.interleave ≤ I.nz + I.interleave - 1 = (le-div_iff_mul-le h).0 i in
        omega (arith, suc-mul (n % sub_frames I.nz I.interleave) I.interleave)

    pub frame_below : n < I.ny * sub_frames I.nz I.interleave → n / sub_frames I.nz I.interleave < I.ny
    frame_below k = (div-lt_iff_lt-mul some_frames).1 k

-- the last sub-frame ends with the bands, the others have their depth
pub at_frame_min : (I : Image) (n : ℕ) → I.sequential ≡ false → 1 ≤ I.interleave → 0 < I.nz → {to : ℕ}
    → to ≡ min I.nz (n % sub_frames I.nz I.interleave * I.interleave + I.interleave)
    → row_at I n ≡ record { y = n / sub_frames I.nz I.interleave; from = n % sub_frames I.nz I.interleave * I.interleave; to = to }
at_frame_min I n e m z {to} h =
    let start = n % sub_frames I.nz I.interleave * I.interleave in
    let f = from_below I n m z in
    let k : start + min I.interleave (I.nz - start) ≡ to = omega arith in
    at_frame I n e ∙ ap (λ (o : ℕ). record { y = n / sub_frames I.nz I.interleave; from = start; to = o }) k

module _ (P : Plan) where
  abbrev I : Image
  I = P.settings.image

  pub row_in : (n : ℕ) → n < row_count P.settings.image → InRow P (row_at P.settings.image n)
  row_in n h = go I.sequential refl
    where
      go : (b : Bool) → I.sequential ≡ b → InRow P (row_at I n)
      go true e =
          let k = band_below I n (legal P).image.ny_least (let c = count_bands I n e in omega arith) in
          rw (at_band I n e) (record { y_in = mod-lt n (legal P).image.ny_least; order = omega arith; within = omega arith })
      go false e =
          let m = ((legal P).image.interleaved e).0 in
          let z = (legal P).image.nz_least in
          let f = from_below I n m z in
          let y = frame_below I n m z (let c = count_frames I n e in omega arith) in
          rw (at_frame I n e) (record { y_in = y; order = omega arith; within = omega arith })

  -- ---- the order

  nest : (f : ℕ → List Place) (m n : ℕ) → join (λ z. join (λ y. f (z * m + y)) 0 m) 0 n ≡ join f 0 (n * m)
  unfolding join
  nest f m zero = let e : zero * m ≡ 0 = omega arith in rw e
  nest f m (suc n) =
      let e : n * m + m ≡ suc n * m = sym (suc-mul n m) in
      let z : 0 + n * m ≡ n * m = omega arith in
      join_last (λ z. join (λ y. f (z * m + y)) 0 m) n
      ∙ ap₂ (λ (a b : List Place). a ++ b) (nest f m n) (sym (join_shift f (n * m) m))
      ∙ sym (ap (join f 0) (sym e) ∙ join_append f 0 (n * m) m ∙ ap (λ (o : ℕ). join f 0 (n * m) ++ join f o m) z)

  band_row_lem : I.sequential ≡ true → (z y : ℕ) → y < I.ny → row_of I.nx y z 1 ≡ places_in I (z * I.ny + y)
  unfolding places_in
  band_row_lem e z y h =
      let d : (z * I.ny + y) / I.ny ≡ z = digits_div z h in
      let r : (z * I.ny + y) % I.ny ≡ y = digits_mod z h in
      let o : z + 1 - z ≡ 1 = omega arith in
      sym (rw (at_band I (z * I.ny + y) e, d, r, o))

  frame_row_lem : I.sequential ≡ false → (y i : ℕ) → i < sub_frames I.nz I.interleave
      → row_of I.nx y (i * I.interleave) (min I.interleave (I.nz - i * I.interleave)) ≡ places_in I (y * sub_frames I.nz I.interleave + i)
  unfolding places_in
  frame_row_lem e y i h =
      let g = sub_frames I.nz I.interleave in
      let d : (y * g + i) / g ≡ y = digits_div y h in
      let r : (y * g + i) % g ≡ i = digits_mod y h in
      let w = i * I.interleave in
      let o : w + min I.interleave (I.nz - w) - w ≡ min I.interleave (I.nz - w) = omega arith in
      sym (rw (at_frame I (y * g + i) e, d, r, o))

  pub order_is : order P.settings.image ≡ join (places_in P.settings.image) 0 (row_count P.settings.image)
  unfolding order band_sequential band_interleaved frame_of
  order_is = go I.sequential refl
    where
      go : (b : Bool) → I.sequential ≡ b → order I ≡ join (places_in I) 0 (row_count I)
      go true e =
          if_true I.sequential _ _ e
          ∙ join_ext (λ z. join (λ y. row_of I.nx y z 1) 0 I.ny) (λ z. join (λ y. places_in I (z * I.ny + y)) 0 I.ny) I.nz
          (λ z _. join_ext (λ y. row_of I.nx y z 1) (λ y. places_in I (z * I.ny + y)) I.ny (λ y h. band_row_lem e z y h))
          ∙ nest (places_in I) I.ny I.nz ∙ ap (join (places_in I) 0) (sym (count_bands I 0 e))
      go false e =
          let g = sub_frames I.nz I.interleave in
          if_false I.sequential _ _ e
          ∙ join_ext (λ y. join (λ i. row_of I.nx y (i * I.interleave) (min I.interleave (I.nz - i * I.interleave))) 0 g) (λ y. join (λ i. places_in I (y * g + i)) 0 g) I.ny
          (λ y _. join_ext (λ i. row_of I.nx y (i * I.interleave) (min I.interleave (I.nz - i * I.interleave))) (λ i. places_in I (y * g + i)) g (λ i h. frame_row_lem e y i h))
          ∙ nest (places_in I) g I.ny ∙ ap (join (places_in I) 0) (sym (count_frames I 0 e))

-- ---- a row of the walk

module _ (P : Plan) (n : ℕ) {r : Row} (e : r ≡ row_at P.settings.image n) where
  -- its columns, by the width that the plan holds
  pub columns_are : places_in P.settings.image n ≡ join (λ x. column_of (r.y * P.nx + x) r.from (r.to - r.from)) 0 (P.nx - 0)
  unfolding places_in row_of
  columns_are =
      let w : P.settings.image.nx ≡ P.nx - 0 = let m = P.planned.nx_is in omega arith in
      ap (row_places P) (sym e) ∙ ap (join (λ x. column_of (r.y * P.settings.image.nx + x) r.from (r.to - r.from)) 0) w
      ∙ ap (λ (m : ℕ). join (λ x. column_of (r.y * m + x) r.from (r.to - r.from)) 0 (P.nx - 0)) (sym P.planned.nx_is)

  pub row_inside : {count : ℕ} → n < count → count ≡ row_count P.settings.image → InRow P r
  row_inside h k = rw e (row_in P n (omega arith))

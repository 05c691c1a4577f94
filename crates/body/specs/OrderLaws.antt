-- Each place of the image stands in the order once, and none behind one that it is needed for.
use Rattle.std.specs.Prelude.{◌≡◌, ◌≢◌, Bool, cond, length}
use Rattle.std.proofs.Math.Path.{refl}
use Rattle.std.proofs.Common.{sym, ◌∙◌, ap, subst, mul_comm, mul_assoc, mul-le-mul_right, suc-mul, div-add-mod', mod-lt, div-lt_iff_lt-mul, le-div_iff_mul-le, arith}
use Rattle.std.proofs.Math.Bool.{true, false}
use mathlib.Core.List.{List, [], ◌∷◌, ◌++◌}
use Prim.Native.Nat.{ℕ, zero, suc, ◌+◌, ◌-◌, ◌*◌, ◌/◌, ◌%◌, ◌<◌, ◌≤◌, min}
use Rattle.std.proofs.Math.Decide.{ℕ_discrete}
use Rattle.settings.specs.declared.Image.{Image}
use Rattle.settings.specs.Lists.{join, one, sum_below}
use Rattle.settings.specs.ListLaws.{sum_below_ext, sum_below_scaled, join_shift, length_join, length_join_same, length_ones}
use Rattle.body.specs.Order.{Place, column_of, row_of, band_sequential, sub_frames, frame_of, band_interleaved, order}

-- F holds of each element
abbrev pub All : {A : Type 0} → (A → Type 0) → List A → Type 0
All F [] = Unit {0}
All F (a ∷ l) = F a × All F l

pub all_map : {A : Type 0} {F G : A → Type 0} (l : List A) → ((a : A) → F a → G a) → All F l → All G l
all_map [] f h = tt
all_map (a ∷ l) f h = (f a h.0, all_map l f h.1)

all_append : {A : Type 0} (F : A → Type 0) (l m : List A) → All F l → All F m → All F (l ++ m)
all_append F [] m h k = k
all_append F (a ∷ l) m h k = (h.0, all_append F l m h.1 k)

all_left : {A : Type 0} (F : A → Type 0) (l m : List A) → All F (l ++ m) → All F l
all_left F [] m h = tt
all_left F (a ∷ l) m h = (h.0, all_left F l m h.1)

all_right : {A : Type 0} (F : A → Type 0) (l m : List A) → All F (l ++ m) → All F m
all_right F [] m h = h
all_right F (a ∷ l) m h = all_right F l m h.1

all_join : {A : Type 0} (F : A → Type 0) (f : ℕ → List A) (a n : ℕ) → ((i : ℕ) → a ≤ i → i < a + n → All F (f i)) → All F (join f a n)
unfolding join
all_join F f a zero h = tt
all_join F f a (suc n) h =
    all_append F (f a) (join f (suc a) n) (h a (omega arith) (omega arith))
    (all_join F f (suc a) n (λ i k l. h i (omega arith) (omega arith)))

-- what holds along a join holds along each of its parts
part : {A : Type 0} (F : A → Type 0) (f : ℕ → List A) (a n i : ℕ) → a ≤ i → i < a + n → All F (join f a n) → All F (f i)
unfolding join
part F f a zero i k l h = absurd (omega arith)
part F f a (suc n) i k l h =
    go (λ u v. part F f (suc a) n i u v (all_right F (f a) (join f (suc a) n) h)) (ℕ_discrete i a)
  where
    go : (suc a ≤ i → i < suc a + n → All F (f i)) → Dec (i ≡ a) → All F (f i)
    go rec (yes e) = subst (λ (x : ℕ). All F (f x)) (sym e) (all_left F (f a) (join f (suc a) n) h)
    go rec (no e) = rec (omega arith) (omega arith)

-- ---- what a place depends on

-- q is needed for p: no later band, no later t, and not p
pub record Earlier (q p : Place) : Type 0 where
  pub lower : q.z ≤ p.z
  pub sooner : q.t ≤ p.t
  pub other : q.z + q.t < p.z + p.t

pub record Inside (I : Image) (p : Place) : Type 0 where
  pub band : p.z < I.nz
  pub time : p.t < I.nx * I.ny

-- p may stand before q
abbrev pub Fine : Place → Place → Type 0
Fine p q = (q ≢ p) × ¬ Earlier q p

-- no place is needed for one before it, and none comes twice
abbrev pub Sorted : List Place → Type 0
Sorted [] = Unit {0}
Sorted (p ∷ ps) = All (Fine p) ps × Sorted ps

-- q is none of the places
abbrev pub Off : Place → List Place → Type 0
Off q ps = All (λ p. q ≢ p) ps

sorted_append : (l m : List Place) → Sorted l → Sorted m → All (λ p. All (Fine p) m) l → Sorted (l ++ m)
sorted_append [] m h k c = k
sorted_append (a ∷ l) m h k c = (all_append (Fine a) l m h.0 c.0, sorted_append l m h.1 k c.1)

-- a join of sorted parts is sorted where G tells the parts apart
sorted_join : (G : ℕ → Place → Type 0) (f : ℕ → List Place) (a n : ℕ)
    → ((i : ℕ) → a ≤ i → i < a + n → Sorted (f i)) → ((i : ℕ) → a ≤ i → i < a + n → All (G i) (f i))
    → ((i j : ℕ) (p q : Place) → i < j → G i p → G j q → Fine p q) → Sorted (join f a n)
unfolding join
sorted_join G f a zero s g c = tt
sorted_join G f a (suc n) s g c =
    sorted_append (f a) (join f (suc a) n) (s a (omega arith) (omega arith))
    (sorted_join G f (suc a) n (λ i k l. s i (omega arith) (omega arith)) (λ i k l. g i (omega arith) (omega arith)) c)
    (all_map (f a)
    (λ p h. all_join (Fine p) f (suc a) n
    (λ j k l. all_map (f j) (λ q h'. c a j p q (omega arith) h h') (g j (omega arith) (omega arith))))
    (g a (omega arith) (omega arith)))

fine_z : (p q : Place) → p.z < q.z → Fine p q
fine_z p q h = (λ e. let e' = ap (λ (w : Place). w.z) e in omega arith, λ e. let k = e.lower in omega arith)

fine_t : (p q : Place) → p.t < q.t → Fine p q
fine_t p q h = (λ e. let e' = ap (λ (w : Place). w.t) e in omega arith, λ e. let k = e.sooner in omega arith)

-- ---- a row of some bands

-- where the places of a row lie
pub record InRow (nx y z n : ℕ) (p : Place) : Type 0 where
  pub x : ℕ
  pub fits : x < nx
  pub is : p.t ≡ y * nx + x
  pub from : z ≤ p.z
  pub to : p.z < z + n

all_row : (F : Place → Type 0) (nx y z n : ℕ)
    → ((x b : ℕ) → x < nx → z ≤ b → b < z + n → F (record { z = b; t = y * nx + x })) → All F (row_of nx y z n)
unfolding row_of column_of
all_row F nx y z n h =
    all_join F (λ x. join (λ b. one (record { z = b; t = y * nx + x })) z n) 0 nx
    (λ x _ l. all_join F (λ b. one (record { z = b; t = y * nx + x })) z n (λ b k m. (h x b (omega arith) k m, tt)))

in_row : (nx y z n : ℕ) → All (InRow nx y z n) (row_of nx y z n)
in_row nx y z n = all_row (InRow nx y z n) nx y z n (λ x b l k m. record { x = x; fits = l; is = refl; from = k; to = m })

sorted_row : (nx y z n : ℕ) → Sorted (row_of nx y z n)
unfolding row_of column_of
sorted_row nx y z n =
    sorted_join (λ x p. p.t ≡ y * nx + x) (λ x. join (λ b. one (record { z = b; t = y * nx + x })) z n) 0 nx
    (λ x _ _. sorted_join (λ b p. p.z ≡ b) (λ b. one (record { z = b; t = y * nx + x })) z n
    (λ b _ _. (tt, tt)) (λ b _ _. (refl, tt)) (λ i j p q l g h. fine_z p q (omega arith)))
    (λ x _ _. all_join (λ p. p.t ≡ y * nx + x) (λ b. one (record { z = b; t = y * nx + x })) z n (λ b _ _. (refl, tt)))
    (λ i j p q l g h. fine_t p q (omega arith))

-- a row holds each of its places
row_part : (F : Place → Type 0) (nx y z n x b : ℕ) → x < nx → z ≤ b → b < z + n → All F (row_of nx y z n)
    → F (record { z = b; t = y * nx + x })
unfolding row_of column_of
row_part F nx y z n x b l k m h =
    (part F (λ c. one (record { z = c; t = y * nx + x })) z n b k m
    (part F (λ u. join (λ c. one (record { z = c; t = y * nx + u })) z n) 0 nx x (omega arith) (omega arith) h)).0

-- rows do not run into each other
row_below : (nx y y' x x' : ℕ) → y < y' → x < nx → y * nx + x < y' * nx + x'
row_below nx y y' x x' h k = let m : suc y * nx ≤ y' * nx = mul-le-mul_right nx h in omega (arith, suc-mul y nx)

rows_apart : (nx y y' : ℕ) (p q : Place) {z n z' n' : ℕ} → y < y' → InRow nx y z n p → InRow nx y' z' n' q → Fine p q
rows_apart nx y y' p q l a b =
    fine_t p q (let h = row_below nx y y' a.x b.x l a.fits in let k = a.is in let k' = b.is in omega arith)

-- ---- the two orders

pub record InLine (nx y : ℕ) (p : Place) : Type 0 where
  pub low : ℕ
  pub count : ℕ
  pub row : InRow nx y low count p

module _ (nx ny nz : ℕ) where
  sorted_sequential : Sorted (band_sequential nx ny nz)
  unfolding band_sequential
  sorted_sequential =
      sorted_join (λ z p. p.z ≡ z) (λ z. join (λ y. row_of nx y z 1) 0 ny) 0 nz
      (λ z _ _. sorted_join (λ y. InRow nx y z 1) (λ y. row_of nx y z 1) 0 ny
      (λ y _ _. sorted_row nx y z 1) (λ y _ _. in_row nx y z 1) (λ i j p q l a b. rows_apart nx i j p q l a b))
      (λ z _ _. all_join (λ p. p.z ≡ z) (λ y. row_of nx y z 1) 0 ny
      (λ y _ _. all_map (row_of nx y z 1) (λ p r. let f = r.from in let t = r.to in omega arith) (in_row nx y z 1)))
      (λ i j p q l g h. fine_z p q (omega arith))

  group_below : (M i j z : ℕ) → i < j → z < i * M + M → z < j * M
  group_below M i j z h k = let l : suc i * M ≤ j * M = mul-le-mul_right M h in omega (arith, suc-mul i M)

  sorted_interleaved : (M : ℕ) → Sorted (band_interleaved nx ny nz M)
  unfolding band_interleaved frame_of
  sorted_interleaved M =
      sorted_join (InLine nx) (λ y. join (λ i. sub y i) 0 (sub_frames nz M)) 0 ny
      (λ y _ _. sorted_join (λ i. InRow nx y (i * M) (min M (nz - i * M))) (λ i. sub y i) 0 (sub_frames nz M)
      (λ i _ _. sorted_row nx y (i * M) (min M (nz - i * M))) (λ i _ _. in_row nx y (i * M) (min M (nz - i * M)))
      (λ i j p q l a b. fine_z p q (let t = a.to in let f = b.from in let g = group_below M i j p.z l (omega arith) in omega arith)))
      (λ y _ _. all_join (InLine nx y) (λ i. sub y i) 0 (sub_frames nz M)
      (λ i _ _. all_map (sub y i) (λ p r. record { low = i * M; count = min M (nz - i * M); row = r }) (in_row nx y (i * M) (min M (nz - i * M)))))
      (λ i j p q l a b. rows_apart nx i j p q l a.row b.row)
    where
      sub : ℕ → ℕ → List Place
      sub y i = row_of nx y (i * M) (min M (nz - i * M))

module _ (I : Image) where
  pub sorted_order : Sorted (order I)
  unfolding order
  sorted_order = go I.sequential
    where
      go : (b : Bool) → Sorted (cond b (band_sequential I.nx I.ny I.nz) (band_interleaved I.nx I.ny I.nz I.interleave))
      go true = sorted_sequential I.nx I.ny I.nz
      go false = sorted_interleaved I.nx I.ny I.nz I.interleave

  row_inside : (y z n : ℕ) → y < I.ny → z + n ≤ I.nz → All (Inside I) (row_of I.nx y z n)
  row_inside y z n h k =
      all_row (Inside I) I.nx y z n
      (λ x b l f t. record {
        band = omega arith;
        time = let m : suc y * I.nx ≤ I.ny * I.nx = mul-le-mul_right I.nx h in omega (arith, suc-mul y I.nx, mul_comm I.ny I.nx);
      })

  pub inside_order : All (Inside I) (order I)
  unfolding order band_sequential band_interleaved frame_of
  inside_order = go I.sequential
    where
      go : (b : Bool) → All (Inside I) (cond b (band_sequential I.nx I.ny I.nz) (band_interleaved I.nx I.ny I.nz I.interleave))
      go true =
          all_join (Inside I) (λ z. join (λ y. row_of I.nx y z 1) 0 I.ny) 0 I.nz
          (λ z _ k. all_join (Inside I) (λ y. row_of I.nx y z 1) 0 I.ny (λ y _ l. row_inside y z 1 (omega arith) (omega arith)))
      go false =
          all_join (Inside I) _ 0 I.ny
          (λ y _ k. all_join (Inside I) _ 0 (sub_frames I.nz I.interleave)
          (λ i _ l. fits y i (omega arith) (ℕ_discrete (I.nz - i * I.interleave) 0)))
        where
          fits : (y i : ℕ) → y < I.ny → Dec (I.nz - i * I.interleave ≡ 0)
              → All (Inside I) (row_of I.nx y (i * I.interleave) (min I.interleave (I.nz - i * I.interleave)))
          fits y i h (yes e) = all_row (Inside I) I.nx y (i * I.interleave) (min I.interleave (I.nz - i * I.interleave)) (λ x b l f t. absurd (omega arith))
          fits y i h (no e) = row_inside y (i * I.interleave) (min I.interleave (I.nz - i * I.interleave)) h (omega arith)

  -- no place of the image is left out
  pub complete : 0 < I.nx → (I.sequential ≡ false → 0 < I.interleave) → (q : Place) → Inside I q → Off q (order I) → ⊥
  unfolding order band_sequential band_interleaved frame_of sub_frames
  complete nx m q i h = go I.sequential refl h
    where
      F : Place → Type 0
      F p = q ≢ p

      M : ℕ
      M = I.interleave

      y : ℕ
      y = q.t / I.nx

      x : ℕ
      x = q.t % I.nx

      g : ℕ
      g = q.z / M

      y_in : y < I.ny
      y_in = (div-lt_iff_lt-mul nx).1 (let k = i.time in omega (arith, mul_comm I.nx I.ny))

      g_is : g * M + q.z % M ≡ q.z
      g_is = div-add-mod' q.z M

      g_in : 0 < M → g < (I.nz + M - 1) / M
      g_in pm = (le-div_iff_mul-le pm).1 (let k = i.band in omega (arith, g_is, suc-mul g M, mod-lt q.z pm))

      back : q ≡ record { z = q.z; t = y * I.nx + x }
      back = λ j. record { z = q.z; t = sym (div-add-mod' q.t I.nx) j }

      go : (b : Bool) → I.sequential ≡ b → Off q (cond b (band_sequential I.nx I.ny I.nz) (band_interleaved I.nx I.ny I.nz I.interleave)) → ⊥
      go true _ h =
          let k = i.band in
          row_part F I.nx y q.z 1 x q.z (mod-lt q.t nx) (omega arith) (omega arith)
          (part F (λ y. row_of I.nx y q.z 1) 0 I.ny y (omega arith) (omega (arith, y_in))
          (part F (λ z. join (λ y. row_of I.nx y z 1) 0 I.ny) 0 I.nz q.z (omega arith) (omega arith) h)) back
      go false sf h =
          let k = i.band in
          let pm : 0 < M = m sf in
          row_part F I.nx y (g * M) (min M (I.nz - g * M)) x q.z (mod-lt q.t nx) (omega (arith, g_is)) (omega (arith, g_is, mod-lt q.z pm))
          (part F (λ i. row_of I.nx y (i * M) (min M (I.nz - i * M))) 0 ((I.nz + M - 1) / M) g (omega arith) (omega (arith, g_in pm))
          (part F _ 0 I.ny y (omega arith) (omega (arith, y_in)) h)) back

-- ---- how many places there are

length_column : (t z n : ℕ) → length (column_of t z n) ≡ n
unfolding column_of
length_column t z n =
    ap length (join_shift (λ b. one (record { z = b; t = t })) z n) ∙ length_ones (λ i. record { z = z + i; t = t }) n

length_row : (nx y z n : ℕ) → length (row_of nx y z n) ≡ n * nx
unfolding row_of
length_row nx y z n = length_join_same (λ x. column_of (y * nx + x) z n) nx n (λ x. length_column (y * nx + x) z n)

-- the bands of the first g sub-frames
bands_of_lem : (M nz g : ℕ) → sum_below g (λ i. min M (nz - i * M)) ≡ min (g * M) nz
unfolding sum_below
bands_of_lem M nz zero = omega arith
bands_of_lem M nz (suc g) = let h = bands_of_lem M nz g in let s = suc-mul g M in omega arith

length_frame : (nx nz M y : ℕ) → 0 < M → length (frame_of nx nz M y) ≡ nz * nx
unfolding frame_of sub_frames
length_frame nx nz M y pm =
    let g : ℕ = (nz + M - 1) / M in
    let a : length (join (λ i. row_of nx y (i * M) (min M (nz - i * M))) 0 g) ≡ sum_below g (λ i. nx * min M (nz - i * M)) =
    length_join (λ i. row_of nx y (i * M) (min M (nz - i * M))) g
    ∙ sum_below_ext g _ _ (λ i _. length_row nx y (i * M) (min M (nz - i * M)) ∙ mul_comm (min M (nz - i * M)) nx) in
    let d : g * M + (nz + M - 1) % M ≡ nz + M - 1 = div-add-mod' (nz + M - 1) M in
    let m = mod-lt (nz + M - 1) pm in
    let b : min (g * M) nz ≡ nz = omega arith in
    a ∙ sum_below_scaled nx g (λ i. min M (nz - i * M)) ∙ ap (λ (x : ℕ). nx * x) (bands_of_lem M nz g ∙ b) ∙ mul_comm nx nz

pub length_order : (I : Image) → (I.sequential ≡ false → 0 < I.interleave) → length (order I) ≡ I.nx * I.ny * I.nz
unfolding order band_sequential band_interleaved
length_order I m = go I.sequential refl
  where
    nx : ℕ
    nx = I.nx

    go : (b : Bool) → I.sequential ≡ b → length (cond b (band_sequential nx I.ny I.nz) (band_interleaved nx I.ny I.nz I.interleave)) ≡ nx * I.ny * I.nz
    go true e =
        length_join_same (λ z. join (λ y. row_of nx y z 1) 0 I.ny) I.nz (nx * I.ny)
        (λ z. length_join_same (λ y. row_of nx y z 1) I.ny nx (λ y. length_row nx y z 1 ∙ omega arith))
    go false e =
        length_join_same (λ y. frame_of nx I.nz I.interleave y) I.ny (I.nz * nx) (λ y. length_frame nx I.nz I.interleave y (m e))
        ∙ (mul_assoc I.nz nx I.ny ∙ mul_comm I.nz (nx * I.ny))

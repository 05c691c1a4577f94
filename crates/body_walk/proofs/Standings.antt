-- Where the bands stand: behind a place its band stands one further on; behind places, as behind one after the other.
use Rattle.std.proofs.Common.{◌≡◌, true, sym, ◌∙◌, ap, List, [], ◌∷◌, ℕ, zero, suc, ◌+◌, ◌-◌, ◌*◌, ◌^◌, ◌<◌, ◌≤◌, mul_comm, mul-le-mul_right, suc-mul, arith, ℤ, length, take, drop, length-take, length-drop, take_at, drop_at, length-take-le, take-take, drop-drop, eq-eqb, ne_eqb}
use native.Mathlib.Decide.{ℕ_discrete}
use lib.Arith.{digits_lt, digits_mod}
use lib.Seq.{take-nil}
use borrow.Rule.Slice.PartMut.{put_mid, take_put, drop_put, same_len_mid}
use Rattle.settings.specs.declared.Settings.{Settings}
use Rattle.settings.specs.Legal.{limited}
use Rattle.settings.specs.Limits.{most_samples}
use Rattle.settings.specs.Lists.{join}
use Rattle.predictor.specs.Differences.{Image}
use Rattle.predictor.specs.Band.{mapped_at}
use Rattle.predictor.proofs.Causality.{weights_at_same, mapped_at_same}
use Rattle.coder.specs.StatisticsLaws.{statistics_same}
use Rattle.body.specs.Order.{Place, row_of, column_of}
use Rattle.body_value.specs.declared.plan.Plan.{Plan}
use Rattle.body_value.specs.declared.Place as value
use Rattle.body_value.specs.Plan.{Inside}
use Rattle.body_value.specs.Value.{Fits, Held}
use Rattle.body_value.proofs.Plans.{area_few, area_fits}
use Rattle.body_walk.specs.declared.rows.Row.{Row}
use Rattle.body_walk.specs.Rows.{InRow, Strip}
use Rattle.body_walk.specs.Standing.{part, Fit, Stand, Next, bump}

pub bump_here : (f : ℕ → ℕ) (p : Place) (b : ℕ) → b ≡ p.z → bump f p b ≡ suc (f b)
unfolding bump
bump_here f p b e = rw (eq-eqb b p.z e)

pub bump_other : (f : ℕ → ℕ) (p : Place) (b : ℕ) → (b ≡ p.z → ⊥) → bump f p b ≡ f b
unfolding bump
bump_other f p b e = rw (ne_eqb b p.z e)

-- ---- the slots of one band, lent and back

take_drop : (n o : ℕ) (l : List ℤ) → take n (drop o l) ≡ drop o (take (o + n) l)
take_drop n zero l = let e : 0 + n ≡ n = omega arith in rw e
take_drop n (suc o) [] = let e : suc o + n ≡ suc (o + n) = omega arith in rw e (take-nil n)
take_drop n (suc o) (x ∷ l) = let e : suc o + n ≡ suc (o + n) = omega arith in rw e (take_drop n o l)

module _ (s l : List ℤ) (z : ℕ) (h : 32 * z + 32 ≤ length s) (n : length l ≡ 32) where
  abbrev lent : List ℤ
  lent = put_mid (32 * z) (32 * z + 32 - 32 * z) s l

  lent_long : length lent ≡ length s
  lent_long = same_len_mid (32 * z) (32 * z + 32 - 32 * z) s l (rw (length-take, length-drop) (omega arith))

  pub part_here : part lent z ≡ l
  unfolding part
  part_here = rw (drop_at (take (32 * z) s) _ (32 * z) (length-take-le (32 * z) s (omega arith))) (take_at l _ 32 n)

  pub part_before : (b : ℕ) → b < z → part lent b ≡ part s b
  unfolding part
  part_before b q =
      let m = lent_long in
      let e : take (32 * z) lent ≡ take (32 * z) s = take_put (32 * z) (32 * z + 32 - 32 * z) s l (omega arith) in
      let f : (x : List ℤ) → 32 * z ≤ length x → take 32 (drop (32 * b) x) ≡ drop (32 * b) (take (32 * b + 32) (take (32 * z) x)) =
      λ x p. take_drop 32 (32 * b) x ∙ ap (drop (32 * b)) (sym (take-take (32 * b + 32) (32 * z) x (omega arith))) in
      f lent (omega arith) ∙ ap (λ (x : List ℤ). drop (32 * b) (take (32 * b + 32) x)) e ∙ sym (f s (omega arith))

  pub part_behind : (b : ℕ) → z + 1 ≤ b → part lent b ≡ part s b
  unfolding part
  part_behind b q =
      let e : drop (32 * z + 32) lent ≡ drop (32 * z + 32) s = drop_put (32 * z) (32 * z + 32) s l (omega arith) h (n ∙ omega arith) in
      let i : 32 * z + 32 + (32 * b - (32 * z + 32)) ≡ 32 * b = omega arith in
      let f : (x : List ℤ) → drop (32 * b) x ≡ drop (32 * b - (32 * z + 32)) (drop (32 * z + 32) x) =
      λ x. sym (drop-drop (32 * b - (32 * z + 32)) (32 * z + 32) x ∙ ap (λ (n : ℕ). drop n x) i) in
      ap (take 32) (f lent ∙ ap (drop (32 * b - (32 * z + 32))) e ∙ sym (f s))

pub lent_is : (s : List ℤ) (z : ℕ) → take (32 * z + 32 - 32 * z) (drop (32 * z) s) ≡ part s z
unfolding part
lent_is s z = let e : 32 * z + 32 - 32 * z ≡ 32 = omega arith in rw e

pub back_fits : {P : Plan} {s l : List ℤ} {z : ℕ} → Fit P s → z < P.settings.image.nz → Fits P z l
    → Fit P (put_mid (32 * z) (32 * z + 32 - 32 * z) s l)
back_fits {P} {s} {l} {z} f h g =
    let n : length l ≡ 32 = g.long in
    let lo = f.long in
    let w : 32 * z + 32 ≤ length s = omega arith in
    record {
      long = rw (same_len_mid (32 * z) (32 * z + 32 - 32 * z) s l (rw (length-take, length-drop) (omega arith))) f.long;
      each = λ b k. go b k w n (ℕ_discrete b z);
    }
  where
    go : (b : ℕ) → b < P.settings.image.nz → 32 * z + 32 ≤ length s → length l ≡ 32 → Dec (b ≡ z) → Fits P b (part (put_mid (32 * z) (32 * z + 32 - 32 * z) s l) b)
    go b k w n (yes e) = rw (e, part_here s l z w n) g
    go b k w n (no e) = far (ℕ_discrete (b - z) 0)
      where
        far : Dec (b - z ≡ 0) → Fits P b (part (put_mid (32 * z) (32 * z + 32 - 32 * z) s l) b)
        far (yes u) = rw (part_before s l z w n b (omega arith)) (f.each b k)
        far (no u) = rw (part_behind s l z w n b (omega arith)) (f.each b k)

-- a band's state in another image that agrees on what it looks at
pub held_same : {S : Settings} {tables : List ℤ} (I J : Image) {b t : ℕ} {l : List ℤ} → 0 < S.image.nx → ((y i : ℕ) → y ≤ b → i < t → J y i ≡ I y i)
    → Held S tables I b t l → Held S tables J b t l
held_same {S} {tables} I J {b} {t} nx h v = record {
  weights = v.weights ∙ sym (weights_at_same S nx J I tables b t h);
  statistics =
      v.statistics
      ∙ sym (statistics_same S tables b (mapped_at S tables J b) (mapped_at S tables I b) t (λ i l. mapped_at_same S nx J I tables b i (λ y j k m. h y j k (omega arith))));
}

module _ {S : Settings} {tables : List ℤ} {s l : List ℤ} {f : ℕ → ℕ} (I J : Image) (p : Place) (h : p.z < S.image.nz) (in_area_lem : p.t < S.image.nx * S.image.ny)
    (nx : 0 < S.image.nx) (long : 32 * S.image.nz ≤ length s) (n : length l ≡ 32) (st : Stand S tables I s f) (next : Next f p)
    (same : (b : ℕ) → b < S.image.nz → (b ≡ p.z → ⊥) → (y i : ℕ) → y ≤ b → i < f b → J y i ≡ I y i)
    (held : Held S tables J p.z (suc p.t) l) where
  abbrev z : ℕ
  z = p.z

  abbrev back : List ℤ
  back = put_mid (32 * p.z) (32 * p.z + 32 - 32 * p.z) s l

  -- the band stands one further on, and the others where they stood
  pub stands : Stand S tables J (put_mid (32 * p.z) (32 * p.z + 32 - 32 * p.z) s l) (bump f p)
  stands = record { within = λ b k. reach b k (ℕ_discrete b z); held = λ b k. go b k (ℕ_discrete b z) }
    where
      w : 32 * z + 32 ≤ length s
      w = omega arith

      reach : (b : ℕ) → b < S.image.nz → Dec (b ≡ z) → bump f p b ≤ S.image.nx * S.image.ny
      reach b k (yes e) = rw (bump_here f p b e) (let u : f b ≡ p.t = ap f e ∙ next.here in omega arith)
      reach b k (no e) = rw (bump_other f p b e) (st.within b k)

      go : (b : ℕ) → b < S.image.nz → Dec (b ≡ z) → Held S tables J b (bump f p b) (part back b)
      go b k (yes e) =
          let u : bump f p b ≡ suc p.t = bump_here f p b e ∙ ap suc (ap f e ∙ next.here) in
          rw (u, e, part_here s l z w n) held
      go b k (no e) = far (ℕ_discrete (b - z) 0)
        where
          old : Held S tables J b (bump f p b) (part s b)
          old = rw (bump_other f p b e) (held_same I J nx (same b k e) (st.held b k))

          far : Dec (b - z ≡ 0) → Held S tables J b (bump f p b) (part back b)
          far (yes v) = rw (part_before s l z w n b (omega arith)) old
          far (no v) = rw (part_behind s l z w n b (omega arith)) old

-- ---- places of rows

module _ (P : Plan) {r : Row} (h : InRow P r) {x : ℕ} (k : x < P.nx) where
  x_in : x < P.settings.image.nx
  x_in = let e = P.planned.nx_is in omega arith

  place_in : r.y * P.settings.image.nx + x < P.settings.image.nx * P.settings.image.ny
  place_in = rw (mul_comm P.settings.image.nx P.settings.image.ny) (digits_lt h.y_in x_in)

  pub strip : Strip P (record { z = r.from; t = r.y * P.nx + x; x = x }) r.to
  strip = record {
    order = h.order;
    within = h.within;
    place_in = rw P.planned.nx_is place_in;
    column_is = rw P.planned.nx_is (sym (digits_mod r.y x_in));
  }

-- the numbers of a row's places are within what bounds a band's
row_within : (P : Plan) {r : Row} {bound : ℕ} → P.settings.image.nx * P.settings.image.ny ≤ bound → InRow P r → r.y * P.nx + P.nx ≤ bound
row_within P {r} a h =
    let e : r.y * P.nx + P.nx ≡ r.y * P.settings.image.nx + P.settings.image.nx = ap (λ (n : ℕ). r.y * n + n) P.planned.nx_is in
    let i : suc r.y * P.settings.image.nx ≤ P.settings.image.ny * P.settings.image.nx = mul-le-mul_right P.settings.image.nx h.y_in in
    omega (arith, suc-mul r.y P.settings.image.nx, mul_comm P.settings.image.nx P.settings.image.ny)

pub row_small : (P : Plan) {r : Row} → InRow P r → r.y * P.nx + P.nx ≤ 2 ^ 32
row_small P h = row_within P (area_fits P.settings P.planned.legal) h

-- of an image within the house limits
pub row_few : (P : Plan) {r : Row} → limited P.settings.image ≡ true → InRow P r → r.y * P.nx + P.nx ≤ most_samples
row_few P k h = row_within P (area_few P.settings P.planned.legal k) h

pub inside : {P : Plan} {first : value.Place} {to z : ℕ} → Strip P first to → z < to → Inside P (record { z = z; t = first.t; x = first.x })
inside h k = record { band_in = let w = h.within in omega arith; place_in = h.place_in; column_is = h.column_is }

pub inside_as : {P Q : Plan} {p : value.Place} → Q ≡ P → Inside P p → Inside Q p
inside_as e h = rw e h

-- a row's columns, by the width that the plan holds
pub row_places_lem : (P : Plan) (y z n : ℕ) → row_of P.settings.image.nx y z n ≡ join (λ x. column_of (y * P.nx + x) z n) 0 P.nx
unfolding row_of
row_places_lem P y z n = ap (λ (m : ℕ). join (λ x. column_of (y * m + x) z n) 0 m) (sym P.planned.nx_is)

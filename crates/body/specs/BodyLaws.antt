-- The body both ways: at each place writer and reader stand in the same context, since it comes from earlier places alone.
use Rattle.std.proofs.Math.Path.{◌≡◌, refl, sym, ap, subst}
use Rattle.std.proofs.Common.{◌∙◌, mul-le-mul_right, suc-mul, div-add-mod', mod-lt, div-lt_iff_lt-mul, length-set}
use Rattle.std.specs.Prelude.{◌≢◌, Bool, pos, set}
use Rattle.std.proofs.Math.Bool.{true}
use mathlib.Core.List.{List, [], ◌∷◌, ◌++◌, append_assoc}
use Prim.Native.Nat.{ℕ, suc, ◌+◌, ◌-◌, ◌*◌, ◌/◌, ◌%◌, ◌<◌, ◌≤◌}
use Rattle.std.proofs.Math.Nat.{mul_comm}
use Rattle.std.proofs.Math.Decide.{ℕ_discrete}
use native.Mathlib.Omega.{arith}
use Rattle.std.proofs.Math.IntN.{ℤ}
use Rattle.std.proofs.Math.ListN.{get_or}
use Rattle.std.proofs.Math.Seq.{ext_get_or, get_or-set_same, get_or-set_other}
use Rattle.bitstream.specs.Stream.{Parsed, ok, short, bad}
use Rattle.refusals.specs.declared.Refusal.TheVariants.{BodyEnds, BadCodeword}
use Rattle.refusals.specs.Reading.{Read, got, refused}
use Rattle.settings.specs.declared.Settings.{Settings}
use Rattle.settings.specs.Legal.{sample_count}
use Rattle.settings.specs.Range.{in_range}
use Rattle.predictor.specs.Differences.{Image, index_of, image_of}
use Rattle.predictor.specs.Mapping.{mapped, unmapped}
use Rattle.predictor.specs.Band.{scaled_at, mapped_at}
use Rattle.predictor.proofs.Causality.{scaled_at_same, mapped_at_same}
use Rattle.predictor.specs.PredictionLaws.{Predicted, scaled_at_predicted}
use Rattle.predictor.specs.MappingLaws.{mapped_unmapped, unmapped_mapped, mapped_small, unmapped_range}
use Rattle.coder.specs.Statistics.{statistics_at}
use Rattle.coder.specs.StatisticsLaws.{statistics_same}
use Rattle.coder.specs.Encoding.{encode, encode_at}
use Rattle.coder.specs.EncodingLaws.{decode_encode, encode_decode}
use Rattle.body.specs.Order.{Place}
use Rattle.body.specs.OrderLaws.{All, all_map, Earlier, Inside, Fine, Sorted, Off}
use Rattle.body.specs.Body.{code, codes, mapped_off, restored, read_body}
pub use Rattle.body.specs.Good.{Good}

-- the bits of sample v at place p, in the context that the image I gives
unfoldable pub code_of : Settings → List ℤ → Image → Place → ℤ → List Bool
code_of S tables I p v =
    encode S p.t (statistics_at S tables p.z (mapped_at S tables I p.z) p.t) (mapped S (scaled_at S tables I p.z p.t) v)

module _ (S : Settings) where
  abbrev pub index : Place → ℕ
  index p = index_of S.image p.z p.t

  unfoldable pub sample : List ℤ → Place → ℤ
  sample samples p = get_or samples (index p) (pos 0)

  sample_legal : (samples : List ℤ) (p : Place) → Good S samples → in_range S.image (sample samples p) ≡ true
  unfolding sample
  sample_legal samples p g = g.in_range_lem (index p)

  count_is : sample_count S.image ≡ S.image.nz * (S.image.nx * S.image.ny)
  unfolding sample_count
  count_is = mul_comm (S.image.nx * S.image.ny) S.image.nz

  digits : (a z z' t t' : ℕ) → z < z' → t < a → z * a + t < z' * a + t'
  digits a z z' t t' h k = let m : suc z * a ≤ z' * a = mul-le-mul_right a h in omega (arith, suc-mul z a)

  index_in : (p : Place) → Inside S.image p → index p < sample_count S.image
  index_in p i =
      let b = i.band in
      let d = digits (S.image.nx * S.image.ny) p.z S.image.nz p.t 0 b i.time in
      rw count_is (omega arith)

  index_apart : (q p : Place) → Inside S.image q → Inside S.image p → q ≢ p → index q ≡ index p → ⊥
  index_apart q p i j ne e = go (ℕ_discrete q.z p.z) (ℕ_discrete q.t p.t)
    where
      a : ℕ
      a = S.image.nx * S.image.ny

      less : q.z < p.z → ⊥
      less h = let d = digits a q.z p.z q.t p.t h i.time in omega arith

      more : p.z < q.z → ⊥
      more h = let d = digits a p.z q.z p.t q.t h j.time in omega arith

      level : q.z ≡ p.z → q.t ≡ p.t
      level h = let m : q.z * a ≡ p.z * a = ap (λ (z : ℕ). z * a) h in omega arith

      go : Dec (q.z ≡ p.z) → Dec (q.t ≡ p.t) → ⊥
      go (yes h) (yes k) = ne (λ n. record { z = h n; t = k n })
      go (yes h) (no k) = k (level h)
      go (no h) k = apart (ℕ_discrete (q.z - p.z) 0)
        where
          apart : Dec (q.z - p.z ≡ 0) → ⊥
          apart (yes u) = less (omega arith)
          apart (no u) = more (omega arith)

  -- ---- setting one sample

  module _ (x : List ℤ) (p : Place) (v : ℤ) (g : Good S x) (i : Inside S.image p) where
    get_set : sample (set x (index p) v) p ≡ v
    unfolding sample
    get_set = get_or-set_same x (index p) v (pos 0) (let l = g.long in omega (arith, index_in p i))

    get_other : (q : Place) → Inside S.image q → q ≢ p → sample (set x (index p) v) q ≡ sample x q
    unfolding sample
    get_other q j ne = get_or-set_other x (index p) (index q) v (pos 0) (λ e. index_apart q p j i ne e)

    set_good : in_range S.image v ≡ true → Good S (set x (index p) v)
    set_good h = record { long = length-set x (index p) v ∙ g.long; in_range_lem = λ k. go k (ℕ_discrete k (index p)) }
      where
        go : (k : ℕ) → Dec (k ≡ index p) → in_range S.image (get_or (set x (index p) v) k (pos 0)) ≡ true
        go k (yes e) = rw (e, get_or-set_same x (index p) v (pos 0) (let l = g.long in omega (arith, index_in p i))) h
        go k (no e) = rw (get_or-set_other x (index p) k v (pos 0) e) (g.in_range_lem k)

  -- samples that agree at every place are the same
  same_samples : 0 < S.image.nx → (x y : List ℤ) → Good S x → Good S y
      → ((q : Place) → Inside S.image q → sample x q ≡ sample y q) → x ≡ y
  unfolding sample
  same_samples nx x y g h e = ext_get_or (pos 0) x y (g.long ∙ sym h.long) (λ i l. at i (omega (arith, g.long)))
    where
      a : ℕ
      a = S.image.nx * S.image.ny

      full : (i : ℕ) → i < sample_count S.image → 0 < a
      full i l = go (ℕ_discrete a 0)
        where
          go : Dec (a ≡ 0) → 0 < a
          go (yes z) = let m : S.image.nz * a ≡ S.image.nz * 0 = ap (λ (n : ℕ). S.image.nz * n) z in absurd (omega (arith, count_is))
          go (no z) = omega arith

      at : (i : ℕ) → i < sample_count S.image → get_or x i (pos 0) ≡ get_or y i (pos 0)
      at i l =
          let f : 0 < a = full i l in
          let b : i / a < S.image.nz = (div-lt_iff_lt-mul f).1 (omega (arith, count_is)) in
          subst (λ (n : ℕ). get_or x n (pos 0) ≡ get_or y n (pos 0)) (div-add-mod' i a)
          (e (record { z = i / a; t = i % a }) (record { band = b; time = mod-lt i f }))

module _ (S : Settings) (tables : List ℤ) (wide : 0 < S.image.nx) (depth : 1 ≤ S.image.depth) where
  -- ---- the context at a place

  -- an image that agrees at the earlier places gives the same context
  code_as : (x y : List ℤ) (p : Place) → Inside S.image p
      → ((q : Place) → Inside S.image q → Earlier q p → sample S x q ≡ sample S y q)
      → code S tables (image_of S.image y) p ≡ code_of S tables (image_of S.image x) p (sample S y p)
  unfolding code encode_at code_of image_of mapped_at sample
  code_as x y p i h =
      let X = image_of S.image x in
      let Y = image_of S.image y in
      let s : statistics_at S tables p.z (mapped_at S tables Y p.z) p.t ≡ statistics_at S tables p.z (mapped_at S tables X p.z) p.t =
      statistics_same S tables p.z _ _ p.t (λ k l. mapped_at_same S wide Y X tables p.z k (λ w j a b. sym (agree w j a (omega arith) (omega arith)))) in
      let c : scaled_at S tables Y p.z p.t ≡ scaled_at S tables X p.z p.t =
      scaled_at_same S wide Y X tables p.z p.t
      (λ w j a b. sym (agree w j a (omega arith) (omega arith))) (λ w j a b. sym (agree w j (omega arith) b (omega arith))) in
      rw (s, c)
    where
      agree : (w j : ℕ) → w ≤ p.z → j ≤ p.t → w + j < p.z + p.t → get_or x (index_of S.image w j) (pos 0) ≡ get_or y (index_of S.image w j) (pos 0)
      agree w j a b o =
          h (record { z = w; t = j }) (record { band = let k = i.band in omega arith; time = let k = i.time in omega arith })
          (record { lower = a; sooner = b; other = o })

  -- ---- one value

  off_earlier : (p q : Place) (ps : List Place) → Earlier q p → All (Fine p) ps → Off q ps
  off_earlier p q ps e h = all_map ps (λ q' k i. k.1 (subst (λ (w : Place). Earlier w p) i e)) h

  earlier_other : (p q : Place) → Earlier q p → q ≢ p
  earlier_other p q e i = let o = e.other in let z = ap (λ (w : Place). w.z) i in let t = ap (λ (w : Place). w.t) i in omega arith

  same_place : (p q : Place) → Dec (p ≡ q)
  same_place p q = go (ℕ_discrete p.z q.z) (ℕ_discrete p.t q.t)
    where
      go : Dec (p.z ≡ q.z) → Dec (p.t ≡ q.t) → Dec (p ≡ q)
      go (yes a) (yes b) = yes (λ i. record { z = a i; t = b i })
      go (yes a) (no b) = no (λ e. b (ap (λ (w : Place). w.t) e))
      go (no a) b = no (λ e. a (ap (λ (w : Place). w.z) e))

  read_first : (n : ℕ) (p : Place) (ps : List Place) (x : List ℤ) (l : List Bool) (v : ℕ) (r : List Bool)
      → mapped_off S tables (image_of S.image x) p l ≡ ok v r → read_body S tables n (p ∷ ps) x l ≡ read_body S tables (suc n) ps (restored S tables p x v) r
  unfolding read_body
  read_first n p ps x l v r e = rw (e, read_body)

  module _ (x : List ℤ) (p : Place) (g : Good S x) where
    abbrev s~ : ℤ
    s~ = scaled_at S tables (image_of S.image x) p.z p.t

    known : (y i : ℕ) → in_range S.image (image_of S.image x y i) ≡ true
    unfolding image_of
    known y i = g.in_range_lem (index_of S.image y i)

    within : Predicted S s~
    within = scaled_at_predicted S depth (image_of S.image x) p.z (λ y l. known y 0) tables p.t

    -- what is written is read
    value_read : (v : ℤ) (r : List Bool) → in_range S.image v ≡ true
        → mapped_off S tables (image_of S.image x) p (code_of S tables (image_of S.image x) p v ++ r) ≡ ok (mapped S s~ v) r
    unfolding mapped_off code_of
    value_read v r h = decode_encode S _ p.t (mapped S s~ v) r (mapped_small S s~ within depth v h)

    restored_is : (v : ℤ) → in_range S.image v ≡ true → restored S tables p x (mapped S s~ v) ≡ set x (index S p) v
    unfolding restored
    restored_is v h = ap (set x (index S p)) (unmapped_mapped S s~ within v h)

    -- what is read is written
    value_written : (l : List Bool) (d : ℕ) (r : List Bool) → mapped_off S tables (image_of S.image x) p l ≡ ok d r
        → (l ≡ code_of S tables (image_of S.image x) p (unmapped S s~ d) ++ r) × (in_range S.image (unmapped S s~ d) ≡ true)
    unfolding mapped_off code_of
    value_written l d r e =
        let c = encode_decode S _ p.t d l r e in
        (rw (mapped_unmapped S s~ d) c.0, unmapped_range S s~ within depth d c.1)

    module _ (i : Inside S.image p) (d : ℕ) where
      restored_good : in_range S.image (unmapped S s~ d) ≡ true → Good S (restored S tables p x d)
      unfolding restored
      restored_good h = set_good S x p _ g i h

      restored_here : sample S (restored S tables p x d) p ≡ unmapped S s~ d
      unfolding restored
      restored_here = get_set S x p _ g i

      restored_other : (q : Place) → Inside S.image q → q ≢ p → sample S (restored S tables p x d) q ≡ sample S x q
      unfolding restored
      restored_other = get_other S x p _ g i

  -- ---- all values

  -- what is written at places is read there, where the samples so far are those written elsewhere
  pub places_read : (n : ℕ) (x y : List ℤ) (ps : List Place) (r : List Bool) → Good S x → Good S y → All (Inside S.image) ps → Sorted ps
      → ((q : Place) → Inside S.image q → Off q ps → sample S x q ≡ sample S y q)
      → read_body S tables n ps x (codes S tables (image_of S.image y) ps ++ r) ≡ got y r
  unfolding read_body codes
  places_read n x y [] r gx gy ins s h = ap (λ (w : List ℤ). got w r) (same_samples S wide x y gx gy (λ q i. h q i tt))
  places_read n x y (p ∷ ps) r gx gy ins s h =
      let v = sample S y p in
      let c : code S tables (image_of S.image y) p ≡ code_of S tables (image_of S.image x) p v =
      code_as x y p ins.0 (λ q i e. h q i (earlier_other p q e, off_earlier p q ps e s.0)) in
      rw (append_assoc, c)
      (read_first n p ps x _ _ _ (value_read x p gx v _ legal)
      ∙ rw (restored_is x p gx v legal)
      (places_read (suc n) (set x (index S p) v) y ps r (set_good S x p v gx ins.0 legal) gy ins.1 s.1 (λ q i o. agree q i o (same_place q p))))
    where
      legal : in_range S.image (sample S y p) ≡ true
      legal = sample_legal S y p gy

      agree : (q : Place) → Inside S.image q → Off q ps → Dec (q ≡ p) → sample S (set x (index S p) (sample S y p)) q ≡ sample S y q
      agree q i o (yes e) = subst (λ (w : Place). sample S (set x (index S p) (sample S y p)) w ≡ sample S y w) (sym e) (get_set S x p _ gx ins.0)
      agree q i o (no e) = get_other S x p _ gx ins.0 q i e ∙ h q i (e, o)

  pub record Written (x y : List ℤ) (ps : List Place) (l r : List Bool) : Type 0 where
    pub same : l ≡ codes S tables (image_of S.image y) ps ++ r
    pub kept : (q : Place) → Inside S.image q → Off q ps → sample S y q ≡ sample S x q
    pub good : Good S y

  pub places_written : (n : ℕ) (x y : List ℤ) (ps : List Place) (l r : List Bool) → Good S x → All (Inside S.image) ps → Sorted ps
      → read_body S tables n ps x l ≡ got y r → Written x y ps l r
  unfolding read_body codes
  places_written n x y [] l r gx ins s e = record { same = cc; kept = λ q i o. cc; good = subst (Good S) (cc) gx }
  places_written n x y (p ∷ ps) l r gx ins s e =
      go (λ x' l' g. places_written (suc n) x' y ps l' r g ins.1 s.1) (mapped_off S tables (image_of S.image x) p l) refl e
    where
      go : ((x' : List ℤ) (l' : List Bool) → Good S x' → read_body S tables (suc n) ps x' l' ≡ got y r → Written x' y ps l' r)
          → (d : Parsed) → mapped_off S tables (image_of S.image x) p l ≡ d
          → elim d as (λ _. Read (List ℤ))
          [ ok v r' ↦ read_body S tables (suc n) ps (restored S tables p x v) r' | short ↦ refused (BodyEnds n) | bad ↦ refused (BadCodeword n) ] ≡ got y r
          → Written x y (p ∷ ps) l r
      go rec short h k = let z : ◌≡◌ {A = ℕ} 0 1 = cc in absurd (omega arith)
      go rec bad h k = let z : ◌≡◌ {A = ℕ} 0 1 = cc in absurd (omega arith)
      go rec (ok d r') h k =
          let v : ℤ = unmapped S (s~ x p gx) d in
          let w = value_written x p gx l d r' h in
          let t = rec (restored S tables p x d) r' (restored_good x p gx ins.0 d w.1) k in
          let yp : sample S y p ≡ v = t.kept p ins.0 (all_map ps (λ q f i. f.0 (sym i)) s.0) ∙ restored_here x p gx ins.0 d in
          let c : code S tables (image_of S.image y) p ≡ code_of S tables (image_of S.image x) p v =
          code_as x y p ins.0
          (λ q i e1. sym (t.kept q i (off_earlier p q ps e1 s.0) ∙ restored_other x p gx ins.0 d q i (earlier_other p q e1)))
          ∙ ap (code_of S tables (image_of S.image x) p) yp in
          record {
            same = rw (c, append_assoc, ← t.same) w.0;
            kept = λ q i o. t.kept q i o.1 ∙ restored_other x p gx ins.0 d q i o.0;
            good = t.good;
          }

-- One value through a band's slots: the halves' parts lent and back, and what they answer together where the slots hold the band's state.
use Rattle.std.proofs.Common.{◌≡◌, refl, sym, ◌∙◌, ap, ap₂, Bool, true, List, ◌∷◌, ◌++◌, ℕ, zero, suc, ◌+◌, ◌*◌, ◌/◌, ◌%◌, ◌^◌, ◌<◌, ◌≤◌, add-one, arith, ℤ, pos, length, get_or, set, take, drop, length-set, length-append, length-drop, length-take, take_at, drop_at, length-take-le, get_or-set_same, get_or-set_other}
use native.Mathlib.Decide.{ℕ_discrete}
use lib.Arith.{digits_div, digits_mod}
use borrow.Rule.Slice.PartMut.{put_mid, take_put, same_len_mid}
use Rattle.bitstream.specs.declared.write.Tail.{Tail}
use Rattle.bitstream.specs.declared.read.Unread.{Unread}
use Rattle.bitstream.specs.declared.read.Unread.TheVariants.{Short, Bad}
use Rattle.bitstream.specs.Stream.{Parsed, ok, short, bad}
use Rattle.bitstream.specs.Reader.{unread}
use Rattle.settings.specs.declared.Settings.{Settings}
use Rattle.settings.specs.declared.Image as settings
use Rattle.refusals.specs.declared.Refusal.TheVariants.{BodyEnds, BadCodeword}
use Rattle.refusals.specs.Reading.{refused}
use Rattle.settings.specs.Range.{in_range}
use Rattle.settings.specs.Tables.{component_count}
use Rattle.predictor.specs.Differences.{Image, index_of, image_of}
use Rattle.predictor.specs.Mapping.{mapped, unmapped}
use Rattle.predictor.specs.MappingLaws.{mapped_unmapped}
use Rattle.predictor.specs.Band.{scaled_with, weights_behind, weights_at, scaled_at, mapped_at}
use Rattle.predictor.specs.Causality as causality
use Rattle.predictor.proofs.Causality.{components_at_same, scaled_with_same, weights_at_same, scaled_at_same, mapped_at_same}
use Rattle.predictor.specs.Inputs as inputs
use Rattle.predictor.specs.Asks as asks
use Rattle.coder.specs.declared.Statistics.{Statistics}
use Rattle.coder.specs.Statistics.{statistics_behind, statistics_at}
use Rattle.coder.specs.StatisticsLaws.{statistics_same}
use Rattle.coder.specs.Encoding.{encode, encode_at, decode}
use Rattle.coder.specs.EncodingLaws.{encode_decode, length_encode}
use Rattle.body.specs.Order as order
use Rattle.body.specs.Body.{code, mapped_off, restored, read_body}
use Rattle.body_value.specs.declared.plan.Plan.{Plan}
use Rattle.body_value.specs.declared.Place.{Place}
use Rattle.body_value.specs.declared.Cursor.{Cursor}
use Rattle.body_value.specs.Predictor.{Predicting, Mapped, Restored}
use Rattle.body_value.specs.Coder.{statistics_in, Coding, Coded, Found}
use Rattle.body_value.specs.Value.{Held, refused_at, place_of, Writing, Wrote, Reading, Placed}
use Rattle.body_value.proofs.Plans.{legal}

-- ---- the parts of a band's slots

-- the statistics into slots
module _ (l : List ℤ) (n : length l ≡ 14) (x : List ℤ) (h : length x ≡ 32) where
  pub mid_front : take 18 (put_mid 18 14 x l) ≡ take 18 x
  mid_front = take_put 18 14 x l (omega arith)

  pub mid_behind : take 14 (drop 18 (put_mid 18 14 x l)) ≡ l
  mid_behind = rw (drop_at (take 18 x) _ 18 (length-take-le 18 x (omega arith))) (take_at l _ 14 n)

  pub mid_long : length (put_mid 18 14 x l) ≡ 32
  mid_long = same_len_mid 18 14 x l (rw (length-take, length-drop) (omega arith)) ∙ h

module _ (s ws l : List ℤ) (long : length s ≡ 32) (w : length ws ≡ 18) (n : length l ≡ 14) where
  pub behind_kept : take 14 (drop 18 (ws ++ drop 18 s)) ≡ take 14 (drop 18 s)
  behind_kept = ap (take 14) (drop_at ws (drop 18 s) 18 w)

  front_long : length (ws ++ drop 18 s) ≡ 32
  front_long = length-append ws (drop 18 s) ∙ rw (length-drop, w) (omega arith)

  -- weights first, then statistics
  pub first_front : take 18 (put_mid 18 14 (ws ++ drop 18 s) l) ≡ ws
  first_front = mid_front l n (ws ++ drop 18 s) front_long ∙ take_at ws (drop 18 s) 18 w

  pub first_behind : take 14 (drop 18 (put_mid 18 14 (ws ++ drop 18 s) l)) ≡ l
  first_behind = mid_behind l n (ws ++ drop 18 s) front_long

  pub first_long : length (put_mid 18 14 (ws ++ drop 18 s) l) ≡ 32
  first_long = mid_long l n (ws ++ drop 18 s) front_long

  -- statistics first, then weights
  pub last_kept : take 18 (put_mid 18 14 s l) ≡ take 18 s
  last_kept = mid_front l n s long

  pub last_front : take 18 (ws ++ drop 18 (put_mid 18 14 s l)) ≡ ws
  last_front = take_at ws _ 18 w

  pub last_behind : take 14 (drop 18 (ws ++ drop 18 (put_mid 18 14 s l))) ≡ l
  last_behind = ap (take 14) (drop_at ws _ 18 w) ∙ mid_behind l n s long

  pub last_long : length (ws ++ drop 18 (put_mid 18 14 s l)) ≡ 32
  last_long = length-append ws (drop 18 (put_mid 18 14 s l)) ∙ rw (length-drop, w, mid_long l n s long) (omega arith)

-- ---- the definition, one value on

module _ (S : Settings) (tables : List ℤ) (I : Image) (z t : ℕ) {ws : List ℤ} {s : Statistics}
    (hw : ws ≡ weights_at S tables I z t) (hs : s ≡ statistics_at S tables z (mapped_at S tables I z) t) where
  pub delta_at : {δ : ℕ} → δ ≡ mapped S (scaled_with S I z t ws) (I z t) → δ ≡ mapped_at S tables I z t
  unfolding mapped_at scaled_at
  delta_at e = e ∙ ap (λ (w : List ℤ). mapped S (scaled_with S I z t w) (I z t)) hw

  pub code_at : {δ : ℕ} → δ ≡ mapped S (scaled_with S I z t ws) (I z t) → encode S t s δ ≡ code S tables I (record { z = z; t = t })
  unfolding code encode_at
  code_at e = ap₂ (encode S t) hs (delta_at e)

  pub weights_at_lem : weights_behind S I z t (I z t) ws ≡ weights_at S tables I z (suc t)
  unfolding weights_at
  weights_at_lem = ap (weights_behind S I z t (I z t)) hw

  pub statistics_at_lem : {δ : ℕ} → δ ≡ mapped S (scaled_with S I z t ws) (I z t) → statistics_behind S t δ s ≡ statistics_at S tables z (mapped_at S tables I z) (suc t)
  unfolding statistics_at
  statistics_at_lem e = ap₂ (statistics_behind S t) (delta_at e) hs

-- ---- written

few_bits : (P : Plan) (s : Statistics) (t δ : ℕ) → length (encode P.settings t s δ) ≤ 64
few_bits P s t δ =
    let m = length_encode P.settings s t δ in
    omega (arith, (legal P).coder.unary_most, (legal P).image.depth_most)

module _ {P : Plan} {samples slots : List ℤ} {k : Tail} {p : Place} (q : Writing P samples slots k p) where
  abbrev S : Settings
  S = P.settings

  abbrev I : Image
  I = image_of P.settings.image samples

  pub mapping : Predicting P samples (take 18 slots) p
  mapping = record { image = q.image; here = q.here; fit = q.fits.weights }

  module _ {ws' : List ℤ} {δ : ℕ} (m : Mapped P samples (take 18 slots) p ws' δ) where
    kept : take 14 (drop 18 (ws' ++ drop 18 slots)) ≡ take 14 (drop 18 slots)
    kept = ap (take 14) (drop_at ws' (drop 18 slots) 18 m.fit.long)

    pub coding : Coding P (take 14 (drop 18 (ws' ++ drop 18 slots))) δ k
    coding = record { fit = rw kept q.fits.counts; small = m.small; room = q.room }

    pub wrote : {out out' : List ℕ} {k' : Tail} {l' : List ℤ} → Coded P (take 14 (drop 18 (ws' ++ drop 18 slots))) δ p.t k out l' k' out'
        → Wrote P samples slots k out p (put_mid 18 14 (ws' ++ drop 18 slots) l') k' out'
    wrote {l'} d =
        let w = m.fit.long in
        let n = d.fit.long in
        let long = q.fits.long in
        record {
          bits = encode S p.t (statistics_in (take 14 (drop 18 (ws' ++ drop 18 slots)))) δ;
          put = d.put;
          few = few_bits P _ p.t δ;
          fits = record {
            long = first_long slots ws' l' long w n;
            weights = rw (first_front slots ws' l' long w n) m.fit;
            counts = rw (first_behind slots ws' l' long w n) d.fit;
          };
          means = λ tables h.
              let hs = ap statistics_in kept ∙ h.statistics in (
                code_at S tables I p.z p.t h.weights hs m.delta_is,
                record {
                  weights = ap (take (component_count S.predictor p.z)) (first_front slots ws' l' long w n) ∙ m.weights ∙ weights_at_lem S tables I p.z p.t h.weights hs;
                  statistics = ap statistics_in (first_behind slots ws' l' long w n) ∙ d.statistics ∙ statistics_at_lem S tables I p.z p.t h.weights hs m.delta_is;
                },
              );
        }

-- ---- a sample stored

same_index : (a z t y i : ℕ) → t < a → i < a → y * a + i ≡ z * a + t → (y ≡ z) × (i ≡ t)
same_index a z t y i h k e =
    (sym (digits_div y k) ∙ ap (λ (n : ℕ). n / a) e ∙ digits_div z h, sym (digits_mod y k) ∙ ap (λ (n : ℕ). n % a) e ∙ digits_mod z h)

-- another place keeps its sample
pub stored_other : (J : settings.Image) (x : List ℤ) (z t : ℕ) (v : ℤ) → t < J.nx * J.ny → (y i : ℕ) → i < J.nx * J.ny → ((y ≡ z) × (i ≡ t) → ⊥)
    → image_of J (set x (index_of J z t) v) y i ≡ image_of J x y i
unfolding image_of
stored_other J x z t v h y i k ne = get_or-set_other x (index_of J z t) (index_of J y i) v (pos 0) (λ e. ne (same_index (J.nx * J.ny) z t y i h k e))

pub given_set : {S : Settings} {x : List ℤ} (i : ℕ) (v : ℤ) → in_range S.image v ≡ true → asks.Given S x → asks.Given S (set x i v)
given_set {S} {x} i v h g = record {
  legal = g.legal;
  within = g.within;
  long = length-set x i v ∙ g.long;
  ranged = λ j l. go j (let e = length-set x i v in omega arith) (ℕ_discrete j i);
}
  where
    go : (j : ℕ) → j < length x → Dec (j ≡ i) → in_range S.image (get_or (set x i v) j (pos 0)) ≡ true
    go j l (yes e) = rw (e, get_or-set_same x i v (pos 0) (omega arith)) h
    go j l (no e) = rw (get_or-set_other x i j v (pos 0) e) (g.ranged j l)

-- what is behind a value looks at the image up to it
behind_same : (S : Settings) → 0 < S.image.nx → (I J : Image) (z t : ℕ) (v : ℤ) (ws : List ℤ) → causality.Before I J z t
    → weights_behind S I z t v ws ≡ weights_behind S J z t v ws
unfolding weights_behind
behind_same S nx I J z zero v ws h = refl
behind_same S nx I J z (suc t) v ws h = rw (components_at_same S nx I J z (suc t) (omega arith) h, scaled_with_same S nx I J z (suc t) ws h)

module _ (S : Settings) (nx : 0 < S.image.nx) (tables x : List ℤ) (z t : ℕ) (v : ℤ) (h : t < S.image.nx * S.image.ny) (k : index_of S.image z t < length x) where
  abbrev old : Image
  old = image_of S.image x

  abbrev new : Image
  new = image_of S.image (set x (index_of S.image z t) v)

  now_here : new z t ≡ v
  unfolding image_of
  now_here = get_or-set_same x (index_of S.image z t) v (pos 0) k

  before : (y i : ℕ) → y ≤ z → i < t → new y i ≡ old y i
  before y i a b = stored_other S.image x z t v h y i (omega arith) (λ e. let u = e.1 in omega arith)

  below : (y i : ℕ) → y < z → i ≤ t → new y i ≡ old y i
  below y i a b = stored_other S.image x z t v h y i (omega arith) (λ e. let u = e.0 in omega arith)

  pub weights_stored : weights_behind S old z t v (weights_at S tables old z t) ≡ weights_at S tables new z (suc t)
  unfolding weights_at
  weights_stored = sym (
      rw (weights_at_same S nx new old tables z t before, now_here)
      (behind_same S nx new old z t v (weights_at S tables old z t) (record { here = λ i l. before z i (omega arith) l; below = below }))
      )

  module _ (δ : ℕ) (ev : v ≡ unmapped S (scaled_at S tables old z t) δ) where
    mapped_stored : mapped_at S tables new z t ≡ δ
    unfolding mapped_at
    mapped_stored = rw (scaled_at_same S nx new old tables z t before below, now_here, ev) (mapped_unmapped S (scaled_at S tables old z t) δ)

    pub statistics_stored : statistics_behind S t δ (statistics_at S tables z (mapped_at S tables old z) t) ≡ statistics_at S tables z (mapped_at S tables new z) (suc t)
    unfolding statistics_at
    statistics_stored =
        sym (ap₂ (statistics_behind S t) mapped_stored
        (statistics_same S tables z (mapped_at S tables new z) (mapped_at S tables old z) t (λ i l. mapped_at_same S nx new old tables z i (λ y j a b. before y j a (omega arith)))))

-- ---- read

near : (F c : List Bool) (at a : ℕ) → drop at F ≡ c ++ drop a F → a ≤ length F → a ≤ at + length c
near F c at a e h = let l = simp (length-append, length-drop) at (ap length e) in omega arith

close : (a b n : ℕ) → a ≤ b + n → n ≤ 64 → a ≤ b + 64
close a b n h k = omega arith

module _ (S : Settings) (tables : List ℤ) (n : ℕ) (p : order.Place) (ps : List order.Place) (x : List ℤ) (l : List Bool) where
  read_on : (d : ℕ) (r : List Bool) → mapped_off S tables (image_of S.image x) p l ≡ ok d r
      → read_body S tables n (p ∷ ps) x l ≡ read_body S tables (suc n) ps (restored S tables p x d) r
  unfolding read_body
  read_on d r e = rw (e, read_body)

  read_short : mapped_off S tables (image_of S.image x) p l ≡ short → read_body S tables n (p ∷ ps) x l ≡ refused (BodyEnds n)
  unfolding read_body
  read_short e = rw (e, read_body)

  read_bad : mapped_off S tables (image_of S.image x) p l ≡ bad → read_body S tables n (p ∷ ps) x l ≡ refused (BadCodeword n)
  unfolding read_body
  read_bad e = rw (e, read_body)

-- what is read with the statistics held is what the definition reads
off_at : (S : Settings) (tables : List ℤ) (I : Image) (z t : ℕ) {s : Statistics} (l : List Bool) (r : Parsed)
    → s ≡ statistics_at S tables z (mapped_at S tables I z) t → decode S t s l ≡ r → mapped_off S tables I (record { z = z; t = t }) l ≡ r
unfolding mapped_off
off_at S tables I z t l r hs e = ap (λ (s : Statistics). decode S t s l) (sym hs) ∙ e

restored_at : (S : Settings) (tables x : List ℤ) (z t δ : ℕ) {ws : List ℤ} {v : ℤ} → ws ≡ weights_at S tables (image_of S.image x) z t
    → v ≡ unmapped S (scaled_with S (image_of S.image x) z t ws) δ
    → (v ≡ unmapped S (scaled_at S tables (image_of S.image x) z t) δ)
    × (set x (index_of S.image z t) v ≡ restored S tables (record { z = z; t = t }) x δ)
unfolding restored scaled_at
restored_at S tables x z t δ hw e =
    let f = e ∙ ap (λ (w : List ℤ). unmapped S (scaled_with S (image_of S.image x) z t w) δ) hw in
    (f, ap (set x (index_of S.image z t)) f)

module _ {P : Plan} {samples slots : List ℤ} {c : Cursor} {p : Place} (q : Reading P samples slots c p) where
  abbrev S' : Settings
  S' = P.settings

  abbrev I' : Image
  I' = image_of P.settings.image samples

  pub predicting : Predicting P samples (take 18 slots) p
  predicting = record { image = q.image; here = q.here; fit = q.fits.weights }

  pub lent : (l' : List ℤ) → 18 ≡ length (take 18 (put_mid 18 14 slots l'))
  lent l' =
      let f : 18 ≤ length slots = let l = q.fits.long in omega arith in
      sym (ap length (take_put 18 14 slots l' f) ∙ length-take-le 18 slots f)

  pub index_is : p.z * P.area + p.t ≡ index_of P.settings.image p.z p.t
  index_is = ap (λ (a : ℕ). p.z * a + p.t) P.planned.area_is

  stops_short : (F : List Bool) → decode P.settings p.t (statistics_in (take 14 (drop 18 slots))) (drop c.at F) ≡ short
      → (tables : List ℤ) → Held P.settings tables (image_of P.settings.image samples) p.z p.t slots
      → (qs : List order.Place) → read_body P.settings tables c.rank (place_of p ∷ qs) samples (drop c.at F) ≡ refused (BodyEnds c.rank)
  stops_short F e tables h qs = read_short S' tables c.rank (place_of p) qs samples (drop c.at F) (off_at S' tables I' p.z p.t (drop c.at F) short h.statistics e)

  stops_bad : (F : List Bool) → decode P.settings p.t (statistics_in (take 14 (drop 18 slots))) (drop c.at F) ≡ bad
      → (tables : List ℤ) → Held P.settings tables (image_of P.settings.image samples) p.z p.t slots
      → (qs : List order.Place) → read_body P.settings tables c.rank (place_of p ∷ qs) samples (drop c.at F) ≡ refused (BadCodeword c.rank)
  stops_bad F e tables h qs = read_bad S' tables c.rank (place_of p) qs samples (drop c.at F) (off_at S' tables I' p.z p.t (drop c.at F) bad h.statistics e)

  pub stops : (F : List Bool) (why : Unread) → decode P.settings p.t (statistics_in (take 14 (drop 18 slots))) (drop c.at F) ≡ unread why
      → (tables : List ℤ) → Held P.settings tables (image_of P.settings.image samples) p.z p.t slots
      → (qs : List order.Place) → read_body P.settings tables c.rank (place_of p ∷ qs) samples (drop c.at F) ≡ refused (refused_at c.rank why)
  stops F Short = stops_short F
  stops F Bad = stops_bad F

  module _ {F : List Bool} {l' : List ℤ} {δ a : ℕ} (d : Found P (take 14 (drop 18 slots)) F c.at p.t l' δ a) where
    written : (drop c.at F ≡ encode S' p.t (statistics_in (take 14 (drop 18 slots))) δ ++ drop a F) × (δ < 2 ^ S'.image.depth)
    written = encode_decode S' (statistics_in (take 14 (drop 18 slots))) p.t δ (drop c.at F) (drop a F) d.off

    front : take 18 (put_mid 18 14 slots l') ≡ take 18 slots
    front = take_put 18 14 slots l' (let l = q.fits.long in omega arith)

    pub sampling : Predicting P samples (take 18 (put_mid 18 14 slots l')) p × (δ < 2 ^ P.settings.image.depth)
    sampling = (record { image = q.image; here = q.here; fit = rw front q.fits.weights }, written.1)

    module _ {ws' : List ℤ} {v : ℤ} (r : Restored P samples (take 18 (put_mid 18 14 slots l')) p δ ws' v) where
      pub took : (i : ℕ) → i ≡ index_of P.settings.image p.z p.t → (n : ℕ) → n ≡ c.rank + 1
          → Placed P F samples slots c p (record { at = a; rank = n }) (set samples i v) (ws' ++ drop 18 (put_mid 18 14 slots l'))
      took i ei n en =
          let w = r.fit.long in
          let m = d.fit.long in
          let long = q.fits.long in
          let next : n ≡ suc c.rank = en ∙ add-one c.rank in
          let nx : 0 < S'.image.nx = (legal P).image.nx_least in
          let ha = q.here.place_in in
          rw ei (record {
            value = v;
            stored = refl;
            image = given_set (index_of S'.image p.z p.t) v r.in_range_lem q.image;
            fits = record {
              long = last_long slots ws' l' long w m;
              weights = rw (last_front slots ws' l' long w m) r.fit;
              counts = rw (last_behind slots ws' l' long w m) d.fit;
            };
            next = next;
            few = close a c.at _ (near F (encode S' p.t (statistics_in (take 14 (drop 18 slots))) δ) c.at a written.0 d.inside) (few_bits P (statistics_in (take 14 (drop 18 slots))) p.t δ);
            inside = d.inside;
            means = λ tables h.
                let hw = ap (take (component_count S'.predictor p.z)) front ∙ h.weights in
                let st = restored_at S' tables samples p.z p.t δ hw r.sample_is in
                let k = index_in in (
                  λ qs.
                      read_on S' tables c.rank (place_of p) qs samples (drop c.at F) δ (drop a F) (off_at S' tables I' p.z p.t (drop c.at F) (ok δ (drop a F)) h.statistics d.off)
                      ∙ ap₂ (λ (j : ℕ) (x : List ℤ). read_body S' tables j qs x (drop a F)) (sym next) (sym st.1),
                  record {
                    weights =
                        ap (take (component_count S'.predictor p.z)) (last_front slots ws' l' long w m) ∙ r.weights
                        ∙ ap (weights_behind S' I' p.z p.t v) hw ∙ weights_stored S' nx tables samples p.z p.t v ha k;
                    statistics =
                        ap statistics_in (last_behind slots ws' l' long w m) ∙ d.statistics ∙ ap (statistics_behind S' p.t δ) h.statistics
                        ∙ statistics_stored S' nx tables samples p.z p.t v ha k δ st.0;
                  },
                );
          })
        where
          index_in : index_of P.settings.image p.z p.t < length samples
          index_in = inputs.inside q.image q.here.band_in q.here.place_in

-- All bands begun, and the body as the walk over all its places.
use Rattle.std.proofs.Common.{Result, Ok, Err, ◌≡◌, refl, sym, ◌∙◌, ap, Bool, true, false, List, [], ◌++◌, append-nil, ℕ, ◌+◌, ◌-◌, ◌*◌, ◌<◌, ◌≤◌, arith, ℤ, length, drop}
use native.Mathlib.Decide.{ℕ_discrete}
use borrow.Rule.Slice.PartMut.{put_mid}
use Rattle.settings.specs.Limits.{most_samples}
use Rattle.bitstream.specs.declared.write.Tail.{Tail}
use Rattle.bitstream.specs.Writer.{Put}
use Rattle.bitstream.proofs.Writes.{put_as}
use Rattle.settings.specs.declared.Settings.{Settings}
use Rattle.settings.specs.Legal.{limited}
use Rattle.settings.specs.LegalLaws.{limited_facts}
use Rattle.refusals.specs.declared.Refusal.{Refusal}
use Rattle.refusals.specs.Reading.{got}
use Rattle.predictor.specs.Differences.{Image, image_of}
use Rattle.predictor.specs.Inputs.{all_ranged}
use Rattle.body.specs.Order.{Place, order}
use Rattle.body.specs.OrderLaws.{length_order}
use Rattle.body.specs.Body.{body, read_body}
use Rattle.body_value.specs.declared.plan.Plan.{Plan}
use Rattle.body_value.specs.declared.Cursor.{Cursor}
use Rattle.body_value.specs.Value.{Started}
use Rattle.body_value.proofs.Plans.{legal}
use Rattle.body_walk.specs.Standing.{part, Fit, Stand, Along}
use Rattle.body_walk.specs.Begun.{Tabled, Begun}
use Rattle.body_walk.specs.Writer.{writer_at, Writable, Moved}
use Rattle.body_walk.specs.Reader.{reader_at, Readable, Went}
use Rattle.body_walk.specs.Whole.{Starts, ReadStarts, Answer}
use Rattle.body_walk.proofs.Standings.{part_here, part_before}
use Rattle.body_walk.proofs.Alongs.{along_order}

-- ---- the next band begun

pub begun_more : {P : Plan} {tables scratch s : List ℤ} {z : ℕ} (l : List ℤ) → Tabled P tables scratch → z < P.settings.image.nz → length s ≡ length scratch
    → Started P tables z l → Begun P tables s z → Begun P tables (put_mid (32 * z) (32 * z + 32 - 32 * z) s l) (z + 1)
begun_more {P} {tables} {scratch} {s} {z} l q h es d g =
    let lo = q.long in
    let w : 32 * z + 32 ≤ length s = omega arith in
    record { each = λ b k. go b k w d.fits.long (ℕ_discrete b z) }
  where
    go : (b : ℕ) → b < z + 1 → 32 * z + 32 ≤ length s → length l ≡ 32 → Dec (b ≡ z) → Started P tables b (part (put_mid (32 * z) (32 * z + 32 - 32 * z) s l) b)
    go b k w n (yes e) = rw (e, part_here s l z w n) d
    go b k w n (no e) = rw (part_before s l z w n b (omega arith)) (g.each b (omega arith))

-- ---- the whole order

read_none : (S : Settings) (tables : List ℤ) (n : ℕ) (x : List ℤ) (l : List Bool) → read_body S tables n [] x l ≡ got x l
unfolding read_body
read_none S tables n x l = refl

module _ (P : Plan) where
  walkable : (P.settings.image.sequential ≡ false) → 0 < P.settings.image.interleave
  walkable u = let i = ((legal P).image.interleaved u).0 in omega arith

  places_few : limited P.settings.image ≡ true → length (order P.settings.image) ≤ most_samples
  places_few h = omega (arith, length_order P.settings.image walkable, (limited_facts P.settings.image h).few_samples)

  along : Along (λ b. 0) (order P.settings.image)
  along = along_order P.settings.image walkable

module _ {P : Plan} {tables scratch s : List ℤ} (q : Tabled P tables scratch) (b : Begun P tables s P.settings.image.nz) (e : length s ≡ length scratch) where
  fit : Fit P s
  fit = record { long = let l = q.long in omega arith; each = λ z k. (b.each z k).fits }

  stand : (I : Image) → Stand P.settings tables I s (λ z. 0)
  stand I = record { within = λ z k. omega arith; held = λ z k. (b.each z k).held I }

  -- ---- written

  pub writes : {samples : List ℤ} {k : Tail} {out : List ℕ} → Starts P tables samples scratch k → Writable P samples (writer_at s k out) (order P.settings.image)
  writes {samples} {k} h = record {
    image = h.image;
    fit = fit;
    room = let f = places_few P h.image.within in let a = h.at in let few = k.few in omega arith;
  }

  pub written : {samples : List ℤ} {k k' : Tail} {out out' : List ℕ} {s' : List ℤ}
      → Moved P samples (writer_at s k out) (order P.settings.image) (writer_at s' k' out') → Put k out (body P.settings tables samples) k' out'
  unfolding body
  written {samples} m = put_as (m.means tables (λ z. 0) (stand (image_of P.settings.image samples)) (along P)).0 m.put

  -- ---- read

  pub reads : {samples : List ℤ} {at : ℕ} → ReadStarts P tables samples scratch at
      → Readable P (reader_at samples s (record { at = at; rank = 0 })) (order P.settings.image)
  reads h = record {
    image = h.image;
    fit = fit;
    room = let f = places_few P h.image.within in let a = h.at_most in omega arith;
    count = let f = places_few P h.image.within in omega arith;
  }

  module _ (samples : List ℤ) (F : List Bool) (at : ℕ) (x' s' : List ℤ) where
    -- the order with nothing behind it
    all : read_body P.settings tables 0 (order P.settings.image) samples (drop at F) ≡ read_body P.settings tables 0 (order P.settings.image ++ []) samples (drop at F)
    all = ap (λ (l : List Place). read_body P.settings tables 0 l samples (drop at F)) (sym (append-nil (order P.settings.image)))

    pub answered : (r : Result Cursor Refusal) → Went P F (reader_at samples s (record { at = at; rank = 0 })) (order P.settings.image) x' s' r → Answer P.settings tables F at samples x' r
    answered (Ok c) m = record {
      read = all ∙ (m.means tables (λ z. 0) (stand (image_of P.settings.image samples)) (along P)).0 [] ∙ read_none P.settings tables c.rank x' (drop c.at F);
      good = record { long = m.image.long; in_range_lem = all_ranged m.image };
      inside = m.inside;
    }
    answered (Err r) m = all ∙ m.means tables (λ z. 0) (stand (image_of P.settings.image samples)) (along P) []

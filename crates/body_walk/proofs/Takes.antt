-- One value read: its band's slots are lent to it and come back.
use Rattle.std.proofs.Common.{Result, Ok, Err, MatchResult, sym, ◌∙◌, Bool, List, ℕ, ◌+◌, ◌-◌, ◌*◌, arith, add-one, ℤ, take, drop}
use borrow.Rule.Slice.PartMut.{put_mid}
use Rattle.refusals.specs.declared.Refusal.{Refusal}
use Rattle.predictor.specs.Differences.{image_of}
use Rattle.body_value.specs.declared.plan.Plan.{Plan}
use Rattle.body_value.specs.declared.Place as value
use Rattle.body_value.specs.declared.Cursor.{Cursor}
use Rattle.body_value.specs.Plan.{Inside}
use Rattle.body_value.specs.Value.{Held, Reading, Placed, Stepped}
use Rattle.body_value.proofs.Plans.{legal}
use Rattle.body_value.proofs.Values.{stored_other}
use Rattle.body_walk.specs.Rows.{one_place}
use Rattle.body_walk.specs.Standing.{Stand, Along}
use Rattle.body_walk.specs.Reader.{reader_at, Readable, Took, Stops}
use Rattle.body_walk.proofs.Standings.{lent_is, back_fits, stands}

module _ {P : Plan} {x s : List ℤ} {c : Cursor} {p : value.Place} (r : Readable P (reader_at x s c) (one_place p)) (h : Inside P p) where
  pub reading : Reading P x (take (32 * p.z + 32 - 32 * p.z) (drop (32 * p.z) s)) c p
  reading = record {
    image = r.image;
    here = h;
    fits = rw (lent_is s p.z) (r.fit.each p.z h.band_in);
    room = let m = r.room in omega arith;
    count = let m = r.count in omega arith;
  }

  held_here : (tables : List ℤ) (f : ℕ → ℕ) → Stand P.settings tables (image_of P.settings.image x) s f → Along f (one_place p)
      → Held P.settings tables (image_of P.settings.image x) p.z p.t (take (32 * p.z + 32 - 32 * p.z) (drop (32 * p.z) s))
  held_here tables f st al = rw (lent_is s p.z, sym al.0.here) (st.held p.z h.band_in)

  module _ (F : List Bool) (x' l : List ℤ) where
    took : {c' : Cursor} → Placed P F x (take (32 * p.z + 32 - 32 * p.z) (drop (32 * p.z) s)) c p c' x' l
        → Took P F (reader_at x s c) (one_place p) (reader_at x' (put_mid (32 * p.z) (32 * p.z + 32 - 32 * p.z) s l) c')
    took w = record {
      image = w.image;
      fit = back_fits r.fit h.band_in w.fits;
      few = w.few;
      next = w.next ∙ sym (add-one c.rank);
      inside = λ _. w.inside;
      means = λ tables f st al.
          let m = w.means tables (held_here tables f st al) in (
            m.0,
            stands (image_of P.settings.image x) (image_of P.settings.image x') (record { z = p.z; t = p.t }) h.band_in h.place_in
                (legal P).image.nx_least r.fit.long w.fits.long st al.0
                (λ b q e y i u v.
                rw w.stored
                (stored_other P.settings.image x p.z p.t w.value h.place_in y i (let a = st.within b q in omega arith)
                (λ k. let a = al.0.ahead b (let k0 = k.0 in omega arith) in let k1 = k.1 in omega arith)))
                m.1,
          );
    }

    pub stepped : (a : Result Cursor Refusal) → Stepped P F x (take (32 * p.z + 32 - 32 * p.z) (drop (32 * p.z) s)) c p x' l a
        → MatchResult a (λ c'. Took P F (reader_at x s c) (one_place p) (reader_at x' (put_mid (32 * p.z) (32 * p.z + 32 - 32 * p.z) s l) c'))
        (λ q. Stops P F (reader_at x s c) (one_place p) q)
    stepped (Ok c') w = took w
    stepped (Err q) w = record { means = λ tables f st al qs. w tables (held_here tables f st al) qs }

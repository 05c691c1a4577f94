-- One value written: its band's slots are lent to it and come back.
use Rattle.std.proofs.Common.{refl, sym, ◌∙◌, List, append-nil, ℕ, ◌+◌, ◌-◌, ◌*◌, arith, ℤ, take, drop}
use borrow.Rule.Slice.PartMut.{put_mid}
use Rattle.bitstream.specs.declared.write.Tail.{Tail}
use Rattle.predictor.specs.Differences.{image_of}
use Rattle.body.specs.Body.{code, codes}
use Rattle.body_value.specs.declared.plan.Plan.{Plan}
use Rattle.body_value.specs.declared.Place as value
use Rattle.body_value.specs.Plan.{Inside}
use Rattle.body_value.specs.Value.{Held, Writing, Wrote}
use Rattle.body_value.proofs.Plans.{legal}
use Rattle.body_walk.specs.Rows.{one_place}
use Rattle.body_walk.specs.Standing.{part}
use Rattle.body_walk.specs.Writer.{writer_at, Writable, Moved}
use Rattle.body_walk.proofs.Standings.{lent_is, back_fits, stands}

module _ {P : Plan} {samples s : List ℤ} {k : Tail} {out : List ℕ} {p : value.Place} (r : Writable P samples (writer_at s k out) (one_place p)) (h : Inside P p) where
  pub writing : Writing P samples (take (32 * p.z + 32 - 32 * p.z) (drop (32 * p.z) s)) k p
  writing = record {
    image = r.image;
    here = h;
    fits = rw (lent_is s p.z) (r.fit.each p.z h.band_in);
    room = let m = r.room in omega arith;
  }

  pub wrote : {out' : List ℕ} {k' : Tail} {l : List ℤ} → Wrote P samples (take (32 * p.z + 32 - 32 * p.z) (drop (32 * p.z) s)) k out p l k' out'
      → Moved P samples (writer_at s k out) (one_place p) (writer_at (put_mid (32 * p.z) (32 * p.z + 32 - 32 * p.z) s l) k' out')
  unfolding codes
  wrote {l} w = record {
    bits = w.bits;
    put = w.put;
    few = w.few;
    fit = back_fits r.fit h.band_in w.fits;
    means = λ tables f st al.
        let u : Held P.settings tables (image_of P.settings.image samples) p.z p.t (part s p.z) =
        rw (sym al.0.here) (st.held p.z h.band_in) in
        let m = w.means tables (rw (lent_is s p.z) u) in (
          m.0 ∙ sym (append-nil (code P.settings tables (image_of P.settings.image samples) (record { z = p.z; t = p.t }))),
          stands (image_of P.settings.image samples) (image_of P.settings.image samples) (record { z = p.z; t = p.t }) h.band_in h.place_in
              (legal P).image.nx_least r.fit.long w.fits.long st al.0 (λ b q e y i c d. refl) m.1,
        );
  }

-- The writer is a direction of the walk: parts of it one after the other are the walk of their places together.
use Rattle.std.specs.Prelude.{◌≡◌, List, [], ◌∷◌, ◌++◌, ℕ, ◌+◌, ℤ, length, refl}
use Rattle.std.proofs.Common.{append_assoc, length-append, sym, arith}
use Rattle.std.specs.declared.convert.Infallible.{Infallible}
use Rattle.bitstream.specs.declared.write.Tail.{Tail}
use Rattle.bitstream.proofs.Writes.{put_then, put_none}
use Rattle.settings.specs.declared.Settings.{Settings}
use Rattle.predictor.specs.Differences.{Image, image_of}
use Rattle.body.specs.Order.{Place}
use Rattle.body.specs.Body.{codes}
use Rattle.body_value.specs.declared.plan.Plan.{Plan}
use Rattle.body_walk.specs.Standing.{after}
use Rattle.body_walk.specs.StandingLaws.{after_append, along_front, along_behind}
use Rattle.body_walk.specs.Direction.{State, WalkLaws}
use Rattle.body_walk.specs.Writer.{WriterState, Writable, Moved, writer_ready, writer_part}

codes_append : (S : Settings) (tables : List ℤ) (I : Image) (ps qs : List Place) → codes S tables I (ps ++ qs) ≡ codes S tables I ps ++ codes S tables I qs
unfolding codes
codes_append S tables I [] qs = refl
codes_append S tables I (p ∷ ps) qs = rw (codes_append S tables I ps qs, append_assoc)

codes_none : (S : Settings) (tables : List ℤ) (I : Image) → codes S tables I [] ≡ []
unfolding codes
codes_none S tables I = refl

module _ (P : Plan) (samples : List ℤ) where
  abbrev I : Image
  I = image_of P.settings.image samples

  -- nothing done
  pub none : {w : WriterState} {ps : List Place} → Writable P samples w ps → Moved P samples w [] w
  none {w} r = record {
    bits = [];
    put = put_none w.tail w.out;
    few = omega arith;
    fit = r.fit;
    means = λ tables f st a. (sym (codes_none P.settings tables I), st);
  }

  -- one part behind the other
  pub then : {w w' w'' : WriterState} {ps qs : List Place} → Moved P samples w ps w' → Moved P samples w' qs w'' → Moved P samples w (ps ++ qs) w''
  then {ps = ps} {qs = qs} a b = record {
    bits = a.bits ++ b.bits;
    put = put_then a.put b.put;
    few = rw (length-append a.bits b.bits, length-append ps qs) (let u = a.few in let v = b.few in omega arith);
    fit = b.fit;
    means = λ tables f st al.
        let u = a.means tables f st (along_front f ps qs al) in
        let v = b.means tables (after f ps) u.1 (along_behind f ps qs al) in
        (rw (codes_append P.settings tables I ps qs, u.0, v.0), rw (after_append f ps qs) v.1);
  }

  -- the next of what is still to come
  pub go_on : {w w' : WriterState} {ps : List Place} (qs rs : List Place) → Writable P samples w (ps ++ (qs ++ rs)) → Moved P samples w ps w' → Writable P samples w' qs
  go_on {ps = ps} qs rs r m =
      let l : length (ps ++ (qs ++ rs)) ≡ length ps + (length qs + length rs) = rw (length-append ps (qs ++ rs), length-append qs rs) in
      record {
        image = r.image;
        fit = m.fit;
        room = let u = r.room in let v = m.put.size in let w = m.few in omega arith;
      }

  pub writer_laws : WalkLaws (writer_ready P samples) (writer_part P samples) (λ (s : State ℕ Tail) (ps : List Place) (r : Infallible). ⊥)
  writer_laws = record { none = none; then = then; go_on = go_on; behind = λ rs m k. k }

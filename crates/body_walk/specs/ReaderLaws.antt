-- The reader is a direction of the walk: parts of it one after the other are the walk of their places together; where one stops, all stop.
use Rattle.std.specs.Prelude.{◌≡◌, Bool, List, [], ◌++◌, ◌+◌, length, refl}
use Rattle.std.proofs.Common.{append_assoc, length-append, ◌∙◌, arith}
use Rattle.refusals.specs.declared.Refusal.{Refusal}
use Rattle.body.specs.Order.{Place}
use Rattle.body_value.specs.declared.plan.Plan.{Plan}
use Rattle.body_walk.specs.Standing.{after}
use Rattle.body_walk.specs.StandingLaws.{after_append, along_front, along_behind}
use Rattle.body_walk.specs.Direction.{WalkLaws}
use Rattle.body_walk.specs.Reader.{ReaderState, Readable, Took, Stops, reader_ready, reader_part, reader_stops}

module _ (P : Plan) (F : List Bool) where
  -- nothing done
  pub none : {s : ReaderState} {ps : List Place} → Readable P s ps → Took P F s [] s
  none r = record {
    image = r.image;
    fit = r.fit;
    few = omega arith;
    next = omega arith;
    inside = λ h. h;
    means = λ tables f st a. (λ qs. refl, st);
  }

  -- one part behind the other
  pub then : {s s' s'' : ReaderState} {ps qs : List Place} → Took P F s ps s' → Took P F s' qs s'' → Took P F s (ps ++ qs) s''
  then {ps = ps} {qs = qs} a b = record {
    image = b.image;
    fit = b.fit;
    few = rw (length-append ps qs) (let u = a.few in let v = b.few in omega arith);
    next = rw (length-append ps qs) (let u = a.next in let v = b.next in omega arith);
    inside = λ h. b.inside (a.inside h);
    means = λ tables f st al.
        let u = a.means tables f st (along_front f ps qs al) in
        let v = b.means tables (after f ps) u.1 (along_behind f ps qs al) in
        (λ rs. rw (append_assoc ps qs rs) (u.0 (qs ++ rs) ∙ v.0 rs), rw (after_append f ps qs) v.1);
  }

  -- the next of what is still to come
  pub go_on : {s s' : ReaderState} {ps : List Place} (qs rs : List Place) → Readable P s (ps ++ (qs ++ rs)) → Took P F s ps s' → Readable P s' qs
  go_on {ps = ps} qs rs r m =
      let l : length (ps ++ (qs ++ rs)) ≡ length ps + (length qs + length rs) = rw (length-append ps (qs ++ rs), length-append qs rs) in
      record {
        image = m.image;
        fit = m.fit;
        room = let u = r.room in let v = m.few in omega arith;
        count = let u = r.count in let v = m.next in omega arith;
      }

  -- the next stops, whatever comes behind it
  pub stops_behind : {s s' : ReaderState} {ps qs : List Place} {r : Refusal} (rs : List Place) → Took P F s ps s' → Stops P F s' qs r → Stops P F s (ps ++ (qs ++ rs)) r
  stops_behind {ps = ps} {qs = qs} rs a b = record {
    means = λ tables f st al ts.
        let u = a.means tables f st (along_front f ps (qs ++ rs) al) in
        rw (append_assoc ps (qs ++ rs) ts, append_assoc qs rs ts)
        (u.0 (qs ++ (rs ++ ts)) ∙ b.means tables (after f ps) u.1 (along_front (after f ps) qs rs (along_behind f ps (qs ++ rs) al)) (rs ++ ts));
  }

  pub reader_laws : WalkLaws (reader_ready P) (reader_part P F) (reader_stops P F)
  reader_laws = record { none = none; then = then; go_on = go_on; behind = stops_behind }

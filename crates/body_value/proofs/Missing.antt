-- What an error that was turned into another says of the answer before.
use Rattle.std.specs.Prelude.{◌≡◌, refl, Result, Ok, Err, MatchResult, IsErrAnd}
use Rattle.bitstream.proofs.Laws.{absurd_path}

-- a value was the value before
pub ok_before : {A E D : Type 0} (r : Result A E) (s : Result A D) (Q : E → D → Type 0) (x : A) → MatchResult r (λ y. s ≡ Ok y) (λ e. IsErrAnd s (Q e)) → s ≡ Ok x → r ≡ Ok x
ok_before (Ok y) s Q x h e = cc
ok_before (Err why) s Q x h e = absurd (rw e at h)

pub record Turned {A E D : Type 0} (r : Result A E) (Q : E → D → Type 0) (d : D) : Type 0 where
  pub why : E
  pub was : r ≡ Err why
  pub turned : Q why d

-- and an error was one before
pub err_before : {A E D : Type 0} (r : Result A E) (s : Result A D) (Q : E → D → Type 0) (d : D) → MatchResult r (λ y. s ≡ Ok y) (λ e. IsErrAnd s (Q e)) → s ≡ Err d → Turned r Q d
err_before (Ok y) s Q d h e = absurd_path (cc (h, e))
err_before (Err why) s Q d h e = record { why = why; was = refl; turned = rw e at h }

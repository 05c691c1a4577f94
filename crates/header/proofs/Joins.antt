-- Parts that are put one after the other, each of few bits: all the writer's loops.
use mathlib.Core.Path.{◌≡◌, refl, sym, ap, ◌∙◌}
use mathlib.Core.Bool.{Bool}
use mathlib.Core.List.{List, [], ◌∷◌, ◌++◌}
use Prim.Native.Nat.{ℕ, ◌+◌, ◌*◌, ◌%◌, ◌^◌, ◌≤◌, ◌<◌}
use native.Mathlib.Nat.{zero-add, mod-lt}
use native.Mathlib.Numerals.{add-one, one-add}
use native.Mathlib.Omega.{arith}
use lib.ListN.{length, get_or}
use lib.Pow.{pow_pos}
use Rattle.bitstream.specs.Stream.{bits}
use Rattle.bitstream.proofs.Laws.{bits_low}
use Rattle.bitstream.specs.Writer.{Put}
use Rattle.bitstream.specs.declared.write.Tail.{Tail}
use Rattle.bitstream.proofs.Writes.{put_then, put_as, put_none}
use Rattle.settings.specs.Lists.{join}
use Rattle.settings.specs.ListLaws.{join_last, join_align}
use Rattle.header.specs.Fields.{fields}
use Rattle.header.specs.Writing.{fields_of}

-- i of n parts f are put, each of at most w bits
pub record Joins (f : ℕ → List Bool) (w n : ℕ) (t : Tail) (o : List ℕ) (i : ℕ) (t' : Tail) (o' : List ℕ) : Type 0 where
  pub put : Put t o (join f 0 i) t' o'
  pub most : i ≤ n
  pub same : length o' ≡ length o
  pub size : 8 * t'.at + t'.count ≤ 8 * t.at + t.count + w * i

module _ (f : ℕ → List Bool) (w n : ℕ) (t : Tail) (o : List ℕ) where
  pub joins_begin : Joins f w n t o 0 t o
  unfolding join
  joins_begin = record { put = put_none t o; most = omega arith; same = refl; size = omega arith }

  pub joins_more : (i : ℕ) (t' t'' : Tail) (o' o'' : List ℕ) → Joins f w n t o i t' o' → i < n → length (f i) ≤ w → length o'' ≡ length o' → Put t' o' (f i) t'' o'' → Joins f w n t o (i + 1) t'' o''
  joins_more i t' t'' o' o'' j h l s p =
      let e : join f 0 i ++ f i ≡ join f 0 (i + 1) = rw (add-one i) (sym (join_last f i)) in
      record {
        put = put_as e (put_then j.put p);
        most = omega arith;
        same = s ∙ j.same;
        size = omega (arith, j.size, p.size);
      }

  pub joins_all : (i : ℕ) (t' : Tail) (o' : List ℕ) → Joins f w n t o i t' o' → n ≤ i → Put t o (join f 0 n) t' o'
  joins_all i t' o' j h = let e : i ≡ n = omega (arith, j.most) in put_as (ap (join f 0) e) j.put

-- ---- fields

abbrev pub field_at : List ℕ → List ℕ → ℕ → List Bool
field_at ws vs i = bits (get_or ws i 0) (get_or vs i 0)

pub fields_join : (ws vs : List ℕ) → length vs ≡ length ws → join (field_at ws vs) 0 (length ws) ≡ fields (fields_of ws vs)
unfolding join fields fields_of
fields_join [] vs e = refl
fields_join (w ∷ ws) [] e = absurd (omega arith)
fields_join (w ∷ ws) (v ∷ vs) e =
    ap (λ (x : List Bool). bits w v ++ x)
    (join_align (field_at (w ∷ ws) (v ∷ vs)) (field_at ws vs) 1 0 (length ws) (λ i l. rw (one-add i, zero-add i)) ∙ fields_join ws vs (omega arith))

-- a value modulo 2^w says the same field
pub reduced : {t t' : Tail} {o o' : List ℕ} (w v p : ℕ) → p ≡ 2 ^ w → Put t o (bits w (v % p)) t' o' → Put t o (bits w v) t' o'
reduced w v p e h = put_as (ap (λ (m : ℕ). bits w (v % m)) e ∙ bits_low w w v (omega arith)) h

pub reduced_lt : (w v p : ℕ) → p ≡ 2 ^ w → v % p < 2 ^ w
reduced_lt w v p e = rw e (mod-lt v (pow_pos w))

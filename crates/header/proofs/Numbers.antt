-- Fields in a row are read one after the other: each stands behind the widths before it.
use Rattle.std.specs.Prelude.{Result, Ok, Err}
use mathlib.Core.Path.{◌≡◌, refl, sym, ap, ◌∙◌}
use mathlib.Core.Bool.{Bool, true, ◌&&◌, and-eq-true_iff}
use mathlib.Core.List.{List, [], ◌∷◌}
use Prim.Native.Nat.{ℕ, zero, suc, ◌+◌, ◌≤◌, ◌<◌}
use native.Mathlib.Numerals.{add-one}
use native.Mathlib.Omega.{arith}
use borrow.Author.Tests.{leb-true, le-leb}
use lib.Dec.{leb}
use lib.ListN.{length, take, drop, get_or, set, length-set}
use lib.Seq.{drop-drop, take-suc, take-suc-set, take_all}
use Rattle.bitstream.specs.declared.read.Unread.{Unread}
use Rattle.bitstream.specs.Stream.{number}
use Rattle.bitstream.proofs.Laws.{absurd_path}
use Rattle.bitstream.specs.Reader.{found}
use Rattle.header.specs.Fields.{split}
use Rattle.header.specs.FieldLaws.{total}
use Rattle.header.specs.Plain.{fitting}

-- a field that is there is found
pub found_there : (F : List Bool) (at w : ℕ) → at + w ≤ length F → found F at w ≡ Ok (number (take w (drop at F)), at + w)
unfolding found
found_there F at w h = rw (le-leb (at + w) (length F) h)

abbrev value_of : Result (ℕ × ℕ) Unread → ℕ
value_of (Ok read) = read.0
value_of (Err why) = 0

-- so its number is the one that an answer gives, and no answer refuses
pub found_number : (F : List Bool) (at w v next : ℕ) → at + w ≤ length F → found F at w ≡ Ok (v, next) → v ≡ number (take w (drop at F))
found_number F at w v next h e = sym (ap value_of e) ∙ ap value_of (found_there F at w h)

pub found_no_less : {A : Type 0} (F : List Bool) (at w : ℕ) (why : Unread) → at + w ≤ length F → found F at w ≡ Err why → A
found_no_less F at w why h e = absurd_path (cc (found_there F at w h, e))

pub record Width (w : ℕ) : Type 0 where
  pub least : 0 < w
  pub most : w ≤ 16

pub fitting_at : (ws : List ℕ) (i : ℕ) → fitting ws ≡ true → i < length ws → Width (get_or ws i 0)
unfolding fitting
fitting_at [] i e h = absurd (omega arith)
fitting_at (w ∷ ws) zero e h =
    let k = (and-eq-true_iff (leb 1 w && leb w 16) (fitting ws)).0 e in
    let m = (and-eq-true_iff (leb 1 w) (leb w 16)).0 k.0 in
    record { least = leb-true 1 w m.0; most = leb-true w 16 m.1 }
fitting_at (w ∷ ws) (suc i) e h = fitting_at ws i ((and-eq-true_iff (leb 1 w && leb w 16) (fitting ws)).0 e).1 (omega arith)

-- the widths before one, and with it
pub total_take : (ws : List ℕ) (i : ℕ) → i < length ws → (total (take (i + 1) ws) ≡ total (take i ws) + get_or ws i 0) × (total (take i ws) + get_or ws i 0 ≤ total ws)
unfolding total
total_take [] i h = absurd (omega arith)
total_take (w ∷ ws) zero h = (omega arith, omega arith)
total_take (w ∷ ws) (suc i) h =
    let k = total_take ws i (omega arith) in
    let e : suc i + 1 ≡ suc (i + 1) = omega arith in
    (rw e (omega arith), omega arith)

pub split_at : (ws : List ℕ) (l : List Bool) (i : ℕ) → i < length ws → get_or (split ws l) i 0 ≡ number (take (get_or ws i 0) (drop (total (take i ws)) l))
unfolding split total
split_at [] l i h = absurd (omega arith)
split_at (w ∷ ws) l zero h = refl
split_at (w ∷ ws) l (suc i) h = split_at ws (drop w l) i (omega arith) ∙ rw (drop-drop (total (take i ws)) w l)

pub length_split : (ws : List ℕ) (l : List Bool) → length (split ws l) ≡ length ws
unfolding split
length_split [] l = refl
length_split (w ∷ ws) l = ap suc (length_split ws (drop w l))

-- i of the numbers are read, up to the position `next`
pub record Reads (F : List Bool) (at : ℕ) (ws : List ℕ) (vs₀ vs : List ℕ) (next i : ℕ) : Type 0 where
  pub place : next ≡ at + total (take i ws)
  pub read : take i vs ≡ take i (split ws (drop at F))
  pub long : length vs ≡ length vs₀
  pub most : i ≤ length ws

module _ (F : List Bool) (at : ℕ) (ws vs₀ : List ℕ) (same : length vs₀ ≡ length ws) where
  pub reads_begin : Reads F at ws vs₀ vs₀ at 0
  unfolding total
  reads_begin = record { place = omega arith; read = refl; long = refl; most = omega arith }

  pub reads_more : (vs : List ℕ) (next i x : ℕ) → Reads F at ws vs₀ vs next i → i < length ws → x ≡ number (take (get_or ws i 0) (drop next F))
      → Reads F at ws vs₀ (set vs i x) (next + get_or ws i 0) (i + 1)
  reads_more vs next i x r h e =
      let n : get_or (split ws (drop at F)) i 0 ≡ x = split_at ws (drop at F) i h ∙ rw (drop-drop, ← r.place) (sym e) in
      record {
        place = omega (arith, r.place, (total_take ws i h).0);
        read = rw (add-one i, take-suc-set vs i x (omega (arith, r.long)), take-suc (split ws (drop at F)) i 0 (rw (length_split ws (drop at F)) h), r.read, n);
        long = rw (length-set vs i x) r.long;
        most = omega arith;
      }

  pub reads_all : (vs : List ℕ) (next i : ℕ) → Reads F at ws vs₀ vs next i → length ws ≤ i → vs ≡ split ws (drop at F)
  reads_all vs next i r h =
      sym (take_all i vs (omega (arith, r.long))) ∙ r.read ∙ take_all i (split ws (drop at F)) (rw (length_split ws (drop at F)) h)

  -- the next field is there
  pub reads_room : (vs : List ℕ) (next i : ℕ) → Reads F at ws vs₀ vs next i → i < length ws → next + get_or ws i 0 ≤ at + total ws
  reads_room vs next i r h = omega (arith, r.place, (total_take ws i h).1)

-- What is fetched serves as the neighbours of a place: neither sum nor differences look at a neighbour that the position lacks.
use Rattle.std.proofs.Common.{◌≡◌, refl, sym, ◌∙◌, ap, Bool, true, false, cond, ◌||◌, List, ◌⊎◌, inl, inr, ℕ, ◌+◌, ◌-◌, ◌%◌, ◌^◌, ◌<◌, ◌≤◌, zero-le, eq-or-lt_of_le, arith, ltb, eqb, ℤ, pos, nat_abs, ◌+ℤ◌, get_or}
use Rattle.std.proofs.lemmas.Bool.{ltb-false, ltb-true, eqb-true, eqb-false, ne_eqb}
use Rattle.std.proofs.Math.Nat.{mod-eq_of_lt, mul-mod_left, one-mul}
use Rattle.predictor.specs.LocalSum.{Neighbours, Position, neighbours_at, position_at, local_sum, sum_at}
use Rattle.predictor.specs.Differences.{difference, directional, central_at}
use Rattle.predictor.specs.Each.{Each}
use Rattle.predictor.specs.SizeLaws.{Around}
use Rattle.predictor.proofs.SizeLaws.{local_sum_size}
use Rattle.predictor.specs.Asks.{Sample, band_from}
use Rattle.predictor_sums.specs.Fetch.{Fetching, fetched}
use Rattle.predictor_sums.specs.Asks.{Window, Narrow, centre, inside}

-- off the edges all four count
pub sum_inside : (n : Neighbours) → n.west +ℤ n.north_west +ℤ n.north +ℤ n.north_east ≡ local_sum false inside n
unfolding local_sum
sum_inside n = refl

-- ---- neighbours that are alike where a position has them

abbrev pub place : Bool → Bool → Bool → Position
place top left right = record { first_row = top; first_column = left; last_column = right }

record Alike (p : Position) (n n' : Neighbours) : Type 0 where
  pub north : p.first_row ≡ false → n.north ≡ n'.north
  pub west : p.first_column ≡ false → n.west ≡ n'.west
  pub north_west : p.first_row ≡ false → p.first_column ≡ false → n.north_west ≡ n'.north_west
  pub north_east : p.first_row ≡ false → p.last_column ≡ false → n.north_east ≡ n'.north_east

same_sum : (column top left right : Bool) {n n' : Neighbours} → Alike (place top left right) n n'
    → (top ≡ true → left ≡ false) → (column ≡ false → right ≡ true → left ≡ false)
    → local_sum column (place top left right) n ≡ local_sum column (place top left right) n'
unfolding local_sum
same_sum column true left right h first last = rw (h.west (first refl))
same_sum true false left right h first last = rw (h.north refl)
same_sum false false left true h first last = let l = last refl refl in rw (h.north refl, h.west l, h.north_west refl l)
same_sum false false true false h first last = rw (h.north refl, h.north_east refl refl)
same_sum false false false false h first last = rw (h.north refl, h.west refl, h.north_west refl refl, h.north_east refl refl)

same_directional : (top left right : Bool) {n n' : Neighbours} (sum : ℤ) → Alike (place top left right) n n'
    → directional (place top left right) n sum ≡ directional (place top left right) n' sum
unfolding directional
same_directional true left right sum h = refl
same_directional false true right sum h = rw (h.north refl)
same_directional false false right sum h = rw (h.north refl, h.west refl, h.north_west refl refl)

-- ---- in a whole image, where both rows lie in one slice

-- behind the first row, and not in its first column, there is a whole row and a sample before
past : {n t : ℕ} → n ≤ t → (t % n ≡ 0 → ⊥) → n + 1 ≤ t
past {n} {t} h p = go (eq-or-lt_of_le h)
  where
    go : (n ≡ t) ⊎ (n < t) → n + 1 ≤ t
    go (inl q) =
        let m : n % n ≡ 0 = sym (ap (λ (a : ℕ). a % n) (one-mul n)) ∙ mul-mod_left 1 n in
        absurd (p (ap (λ (a : ℕ). a % n) (sym q) ∙ m))
    go (inr q) = omega arith

either : (a b : Bool) → (a || b) ≡ false → (a ≡ false) × (b ≡ false)
either true b e = absurd (let z : ◌≡◌ {A = ℕ} 0 1 = cc in omega arith)
either false b e = (refl, e)

module _ {samples : List ℤ} {base t nx : ℕ} (w : Window samples base t nx) where
  whole : Alike (position_at nx t) (fetched samples (base + (t - nx)) samples (base + t) (position_at nx t)) (neighbours_at nx (band_from samples base) t)
  unfolding position_at neighbours_at
  whole =
      record {
        north = λ a. rw a;
        west = λ b. rw b (at_is (omega (arith, w.later)));
        north_west = λ a b. rw (a, b) (at_is (let h = past (ltb-false t nx a) (eqb-false (t % nx) 0 b) in omega arith));
        north_east = λ a b. rw (a, b) (at_is (omega arith));
      }
    where
      at_is : {i j : ℕ} → i ≡ j → get_or samples i (pos 0) ≡ get_or samples j (pos 0)
      at_is e = ap (λ (i : ℕ). get_or samples i (pos 0)) e

  whole_inside : Fetching samples (base + (t - nx)) samples (base + t) (position_at nx t)
  unfolding position_at
  whole_inside =
      record {
        small = omega (arith, w.inside, w.most);
        north_in = λ a. omega (arith, w.inside);
        west_in = λ b. (omega (arith, w.later), omega (arith, w.inside));
        north_west_in = λ e.
            let (a, b) = either (ltb t nx) (eqb (t % nx) 0) e in
            let h = past (ltb-false t nx a) (eqb-false (t % nx) 0 b) in
            (omega arith, omega (arith, w.inside));
        north_east_in = λ e.
            let (a, b) = either (ltb t nx) (eqb (t % nx + 1) nx) e in
            let h = ltb-false t nx a in
            omega (arith, w.inside, w.wide);
      }

  module _ {p : Position} {up : ℕ} (at : p ≡ position_at nx t) (above : up ≡ t - nx) where
    -- all that is fetched lies inside
    pub fetching : Fetching samples (base + up) samples (base + t) p
    fetching = rw (at, above) whole_inside

    module _ {n : Neighbours} (found : n ≡ fetched samples (base + up) samples (base + t) p) where
      pub sum_is : (column : Bool) → Narrow nx column → local_sum column p n ≡ sum_at nx column (band_from samples base) t
      unfolding sum_at position_at
      sum_is column narrow =
          rw (found, at, above) (same_sum column (ltb t nx) (eqb (t % nx) 0) (eqb (t % nx + 1) nx) whole first last)
        where
          first : ltb t nx ≡ true → eqb (t % nx) 0 ≡ false
          first a = let h = ltb-true t nx a in rw (mod-eq_of_lt h) (ne_eqb t 0 (λ e. omega (arith, w.later)))

          last : column ≡ false → eqb (t % nx + 1) nx ≡ true → eqb (t % nx) 0 ≡ false
          last a b = ne_eqb (t % nx) 0 (λ e. clash (narrow (let h = eqb-true (t % nx + 1) nx b in omega arith)) a)
            where
              clash : column ≡ true → column ≡ false → ⊥
              clash p q = let z : ◌≡◌ {A = ℕ} 0 1 = cc in omega arith

      pub directional_is : (sum : ℤ) → directional p n sum ≡ directional (position_at nx t) (neighbours_at nx (band_from samples base) t) sum
      unfolding position_at
      directional_is sum = rw (found, at, above) (same_directional (ltb t nx) (eqb (t % nx) 0) (eqb (t % nx + 1) nx) sum whole)

    pub central_is : (column : Bool) → Narrow nx column
        → centre column samples (base + up) samples (base + t) p ≡ central_at nx column (band_from samples base) t
    unfolding central_at
    central_is column narrow = ap (λ (s : ℤ). difference (get_or samples (base + t) (pos 0)) s) (sum_is refl column narrow)

-- ---- sizes

pub fetched_small : {above here : List ℤ} (n i : ℕ) (p : Position) → Each Sample above → Each Sample here → Around 65535 (fetched above n here i p)
fetched_small {above} {here} n i p a h =
    record {
      north = small p.first_row (get_or above n (pos 0)) (a.at n);
      west = small p.first_column (get_or here (i - 1) (pos 0)) (h.at (i - 1));
      north_west = small (p.first_row || p.first_column) (get_or above (n - 1) (pos 0)) (a.at (n - 1));
      north_east = small (p.first_row || p.last_column) (get_or above (n + 1) (pos 0)) (a.at (n + 1));
    }
  where
    small : (beyond : Bool) (v : ℤ) → Sample v → Sample (cond beyond (pos 0) v)
    small true v s = zero-le
    small false v s = s

-- a sum of samples of 16 bits has 18
pub sum_small : (column : Bool) (p : Position) (n : Neighbours) → Around 65535 n → nat_abs (local_sum column p n) ≤ 2 ^ 18
sum_small column p n h = let s = local_sum_size 65535 column p n h in omega arith

-- The coding order may be walked: each place finds its band standing there, and no band above it further on.
use Rattle.std.proofs.Common.{◌≡◌, refl, sym, ◌∙◌, ap, ◌⊎◌, inl, inr, Bool, true, false, cond, List, ◌∷◌, ◌++◌, ℕ, zero, suc, ◌+◌, ◌-◌, ◌*◌, ◌<◌, ◌≤◌, min, add-zero, add-suc, suc-add, suc-mul, div-add-mod', mod-lt, le-div_iff_mul-le, arith}
use native.Mathlib.Decide.{ℕ_discrete}
use Rattle.settings.specs.declared.Image.{Image}
use Rattle.settings.specs.Lists.{join, one}
use Rattle.body.specs.Order.{Place, column_of, row_of, band_sequential, sub_frames, frame_of, band_interleaved, order}
use Rattle.body_walk.specs.Standing.{bump, after, Along}
use Rattle.body_walk.specs.StandingLaws.{after_append, along_join}
use Rattle.body_walk.proofs.Standings.{bump_here, bump_other}

side : (a b : ℕ) → (a < b) ⊎ (b ≤ a)
side a b = go (ℕ_discrete (b - a) 0)
  where
    go : Dec (b - a ≡ 0) → (a < b) ⊎ (b ≤ a)
    go (yes e) = inr (omega arith)
    go (no e) = inl (omega arith)

-- g is f, but the bands from .. to − 1 stand before t
record Pushed (f g : ℕ → ℕ) (from to t : ℕ) : Type 0 where
  in_it : (b : ℕ) → from ≤ b → b < to → g b ≡ t
  below : (b : ℕ) → b < from → g b ≡ f b
  above : (b : ℕ) → to ≤ b → g b ≡ f b

-- the places may be walked from f on, and move the bands from .. to − 1 up to t
record Walks (f : ℕ → ℕ) (ps : List Place) (from to t : ℕ) : Type 0 where
  along : Along f ps
  pushed : Pushed f (after f ps) from to t

walks_as : {f : ℕ → ℕ} {ps : List Place} {from to t from' to' t' : ℕ} → from ≡ from' → to ≡ to' → t ≡ t' → Walks f ps from to t → Walks f ps from' to' t'
walks_as e h k w = rw (sym e, sym h, sym k) w

-- ---- a column

module _ (t : ℕ) where
  along_column : (z n : ℕ) (f : ℕ → ℕ) → ((b : ℕ) → z ≤ b → b < z + n → f b ≡ t) → ((b : ℕ) → z + n ≤ b → f b ≤ t)
      → Walks f (join (λ b. one (record { z = b; t = t })) z n) z (z + n) (suc t)
  unfolding join
  along_column z zero f h k = record {
    along = tt;
    pushed = record { in_it = λ b p q. absurd (omega arith); below = λ b p. refl; above = λ b p. refl };
  }
  along_column z (suc n) f h k =
      build (along_column (suc z) n (bump f p) (λ b u v. bump_other f p b (λ e. omega arith) ∙ h b (omega arith) (omega arith))
      (λ b u. rw (bump_other f p b (λ e. omega arith)) (k b (omega arith))))
    where
      p : Place
      p = record { z = z; t = t }

      rest : List Place
      rest = join (λ b. one (record { z = b; t = t })) (suc z) n

      build : Walks (bump f (record { z = z; t = t })) (join (λ b. one (record { z = b; t = t })) (suc z) n) (suc z) (suc z + n) (suc t)
          → Walks f (record { z = z; t = t } ∷ join (λ b. one (record { z = b; t = t })) (suc z) n) z (z + suc n) (suc t)
      build r = record {
        along = (record { here = h z (omega arith) (omega arith); ahead = λ b u. ahead b u (side b (z + suc n)) }, r.along);
        pushed = record {
          in_it = λ b u v. go b u v (ℕ_discrete b z);
          below = λ b u. r.pushed.below b (omega arith) ∙ bump_other f p b (λ e. omega arith);
          above = λ b u. r.pushed.above b (omega arith) ∙ bump_other f p b (λ e. omega arith);
        };
      }
        where
          ahead : (b : ℕ) → z < b → (b < z + suc n) ⊎ (z + suc n ≤ b) → f b ≤ t
          ahead b u (inl v) = let e = h b (omega arith) v in omega arith
          ahead b u (inr v) = k b v

          go : (b : ℕ) → z ≤ b → b < z + suc n → Dec (b ≡ z) → after (bump f p) rest b ≡ suc t
          go b u v (yes e) = r.pushed.below b (omega arith) ∙ bump_here f p b e ∙ ap suc (h b u v)
          go b u v (no e) = r.pushed.in_it b (omega arith) (omega arith)

-- ---- one after the other, on the same bands

walk_then : {f : ℕ → ℕ} {ps qs : List Place} {from to t t' : ℕ} → Walks f ps from to t → Walks (after f ps) qs from to t' → Walks f (ps ++ qs) from to t'
walk_then {f} {ps} {qs} a b = record {
  along = along_join f ps qs a.along b.along;
  pushed = rw (after_append f ps qs) (record {
    in_it = b.pushed.in_it;
    below = λ i u. b.pushed.below i u ∙ a.pushed.below i u;
    above = λ i u. b.pushed.above i u ∙ a.pushed.above i u;
  });
}

module _ (g : ℕ → List Place) (from to : ℕ) (u : ℕ → ℕ) (up : (i : ℕ) → u i ≤ u (suc i)) where
  along_same : (a n : ℕ) (f : ℕ → ℕ)
      → ((i : ℕ) (f : ℕ → ℕ) → a ≤ i → i < a + n → ((b : ℕ) → from ≤ b → b < to → f b ≡ u i) → ((b : ℕ) → to ≤ b → f b ≤ u i) → Walks f (g i) from to (u (suc i)))
      → ((b : ℕ) → from ≤ b → b < to → f b ≡ u a) → ((b : ℕ) → to ≤ b → f b ≤ u a) → Walks f (join g a n) from to (u (a + n))
  unfolding join
  along_same a zero f s h k = record {
    along = tt;
    pushed = record { in_it = λ b p q. rw (add-zero a) (h b p q); below = λ b p. refl; above = λ b p. refl };
  }
  along_same a (suc n) f s h k =
      let r = s a f (omega arith) (omega arith) h k in
      let r' = along_same (suc a) n (after f (g a)) (λ i f' p q. s i f' (omega arith) (omega arith)) r.pushed.in_it
      (λ b p. rw (r.pushed.above b p) (let x = k b p in let y = up a in omega arith)) in
      walks_as refl refl (ap u (suc-add a n ∙ sym (add-suc a n))) (walk_then r r')

-- ---- one beside the other, from the same place to the same place

walk_beside : {f : ℕ → ℕ} {ps qs : List Place} {z0 z1 z2 t : ℕ} → z0 ≤ z1 → z1 ≤ z2 → Walks f ps z0 z1 t → Walks (after f ps) qs z1 z2 t → Walks f (ps ++ qs) z0 z2 t
walk_beside {f} {ps} {qs} {z0} {z1} {z2} {t} o m r r' = record {
  along = along_join f ps qs r.along r'.along;
  pushed = rw (after_append f ps qs) (record {
    in_it = λ b p q. go b p q (side b z1);
    below = λ b p. r'.pushed.below b (omega arith) ∙ r.pushed.below b p;
    above = λ b p. r'.pushed.above b p ∙ r.pushed.above b (omega arith);
  });
}
  where
    go : (b : ℕ) → z0 ≤ b → b < z2 → (b < z1) ⊎ (z1 ≤ b) → after (after f ps) qs b ≡ t
    go b p q (inl w) = r'.pushed.below b w ∙ r.pushed.in_it b p w
    go b p q (inr w) = r'.pushed.in_it b w q

module _ (g : ℕ → List Place) (v : ℕ → ℕ) (t t' : ℕ) (up : (i : ℕ) → v i ≤ v (suc i)) where
  mono : (a n : ℕ) → v a ≤ v (a + n)
  mono a zero = rw (add-zero a) (omega arith)
  mono a (suc n) = rw (add-suc a n) (let h = mono a n in let k = up (a + n) in omega arith)

  along_beside : (a n : ℕ) (f : ℕ → ℕ)
      → ((i : ℕ) (f : ℕ → ℕ) → a ≤ i → i < a + n → ((b : ℕ) → v i ≤ b → b < v (suc i) → f b ≡ t) → ((b : ℕ) → v (suc i) ≤ b → f b ≤ t) → Walks f (g i) (v i) (v (suc i)) t')
      → ((b : ℕ) → v a ≤ b → b < v (a + n) → f b ≡ t) → ((b : ℕ) → v (a + n) ≤ b → f b ≤ t) → Walks f (join g a n) (v a) (v (a + n)) t'
  unfolding join
  along_beside a zero f s h k = record {
    along = tt;
    pushed = record { in_it = λ b p q. absurd (let e = ap v (add-zero a) in omega arith); below = λ b p. refl; above = λ b p. refl };
  }
  along_beside a (suc n) f s h k =
      let e : v (suc a + n) ≡ v (a + suc n) = ap v (suc-add a n ∙ sym (add-suc a n)) in
      let m : v (suc a) ≤ v (suc a + n) = mono (suc a) n in
      let o : v a ≤ v (suc a) = up a in
      let r = s a f (omega arith) (omega arith) (λ b p q. h b p (omega arith)) (λ b p. low b p o (side b (v (a + suc n)))) in
      let r' = along_beside (suc a) n (after f (g a)) (λ i f' p q. s i f' (omega arith) (omega arith))
      (λ b p q. r.pushed.above b p ∙ h b (omega arith) (omega arith))
      (λ b p. rw (r.pushed.above b (omega arith)) (k b (omega arith))) in
      walks_as refl e refl (walk_beside o m r r')
    where
      low : (b : ℕ) → v (suc a) ≤ b → v a ≤ v (suc a) → (b < v (a + suc n)) ⊎ (v (a + suc n) ≤ b) → f b ≤ t
      low b p o (inl q) = let w = h b (omega arith) q in omega arith
      low b p o (inr q) = k b q

-- ---- rows

along_row : (nx y z n : ℕ) (f : ℕ → ℕ) → ((b : ℕ) → z ≤ b → b < z + n → f b ≡ y * nx) → ((b : ℕ) → z + n ≤ b → f b ≤ y * nx) → Walks f (row_of nx y z n) z (z + n) (suc y * nx)
unfolding row_of column_of
along_row nx y z n f h k =
    walks_as refl refl (let e = suc-mul y nx in omega arith)
    (along_same (λ x. join (λ b. one (record { z = b; t = y * nx + x })) z n) z (z + n) (λ x. y * nx + x) (λ i. omega arith) 0 nx f
    (λ x f' _ _ h' k'. walks_as refl refl (sym (add-suc (y * nx) x)) (along_column (y * nx + x) z n f' h' k'))
    (λ b p q. h b p q ∙ sym (add-zero (y * nx))) (λ b p. let x = k b p in omega arith))

module _ (I : Image) where
  abbrev nx : ℕ
  nx = I.nx

  along_bands : Along (λ b. 0) (band_sequential I.nx I.ny I.nz)
  unfolding band_sequential
  along_bands =
      (along_beside (λ z. join (λ y. row_of nx y z 1) 0 I.ny) (λ z. z) 0 ((0 + I.ny) * nx) (λ i. omega arith) 0 I.nz (λ b. 0)
      (λ z f _ _ h k. walks_as refl (omega arith) refl
      (along_same (λ y. row_of nx y z 1) z (z + 1) (λ y. y * nx) (λ i. let e = suc-mul i nx in omega arith) 0 I.ny f
      (λ y f' _ _ h' k'. along_row nx y z 1 f' h' k') (λ b p q. h b p (omega arith) ∙ omega arith) (λ b p. let w = k b (omega arith) in omega arith)))
      (λ b _ _. refl) (λ b _. omega arith)).along

  module _ (m : 0 < I.interleave) where
    abbrev M : ℕ
    M = I.interleave

    abbrev g : ℕ
    g = sub_frames I.nz I.interleave

    enough : I.nz ≤ sub_frames I.nz I.interleave * I.interleave
    unfolding sub_frames
    enough = let d = div-add-mod' (I.nz + M - 1) M in let r = mod-lt (I.nz + M - 1) m in omega arith

    before_end : (i : ℕ) → i < sub_frames I.nz I.interleave → i * I.interleave < I.nz
    unfolding sub_frames
    before_end i h =
        let j : suc i * M ≤ I.nz + M - 1 = (le-div_iff_mul-le m).0 h in
        omega (arith, suc-mul i M)

    along_frame : (y : ℕ) (f : ℕ → ℕ) → ((b : ℕ) → 0 ≤ b → b < I.nz → f b ≡ y * I.nx) → ((b : ℕ) → I.nz ≤ b → f b ≤ y * I.nx)
        → Walks f (frame_of I.nx I.nz I.interleave y) 0 I.nz (suc y * I.nx)
    unfolding frame_of
    along_frame y f h k =
        let z0 : 0 * M ≡ 0 = omega arith in
        let o : min (0 * M) I.nz ≡ 0 = omega arith in
        let en : 0 + g ≡ g = omega arith in
        let ee = enough in
        let e : min ((0 + g) * M) I.nz ≡ I.nz = rw en (omega arith) in
        walks_as o e refl
        (along_beside (λ i. row_of nx y (i * M) (min M (I.nz - i * M))) (λ i. min (i * M) I.nz) (y * nx) (suc y * nx)
        (λ i. let s = suc-mul i M in omega arith) 0 g f
        (λ i f' _ q h' k'.
        let b = before_end i (omega arith) in
        let s = suc-mul i M in
        let e1 : i * M ≡ min (i * M) I.nz = omega arith in
        let e2 : i * M + min M (I.nz - i * M) ≡ min (suc i * M) I.nz = omega arith in
        walks_as e1 e2 refl
        (along_row nx y (i * M) (min M (I.nz - i * M)) f' (λ c p r. h' c (omega arith) (omega arith)) (λ c p. k' c (omega arith))))
        (λ b p q. h b (omega arith) (omega arith)) (λ b p. k b (omega arith)))

    along_frames : Along (λ b. 0) (band_interleaved I.nx I.ny I.nz I.interleave)
    unfolding band_interleaved
    along_frames =
        (along_same (λ y. frame_of nx I.nz M y) 0 I.nz (λ y. y * nx) (λ i. let e = suc-mul i nx in omega arith) 0 I.ny (λ b. 0)
        (λ y f _ _ h k. along_frame y f h k) (λ b _ _. omega arith) (λ b _. omega arith)).along

  pub along_order : (I.sequential ≡ false → 0 < I.interleave) → Along (λ b. 0) (order I)
  unfolding order
  along_order m = go I.sequential refl
    where
      go : (b : Bool) → I.sequential ≡ b → Along (λ b. 0) (cond b (band_sequential I.nx I.ny I.nz) (band_interleaved I.nx I.ny I.nz I.interleave))
      go true e = along_bands
      go false e = along_frames (m e)

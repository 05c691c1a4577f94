-- The gain by the sign of its exponent, the end of the weights' range, and the weights stepped slot by slot.
use Rattle.std.proofs.Common.{◌≡◌, refl, sym, ◌∙◌, ap, Bool, true, false, List, [], ◌∷◌, ℕ, zero, suc, ◌+◌, ◌^◌, ◌<◌, ℤ, pos, negsuc, nat_abs, ◌+ℤ◌, ◌-ℤ◌, ◌*ℤ◌, length, get_or, arith, pow_pos}
use Rattle.std.proofs.Math.Path.{ap₂}
use Rattle.std.proofs.lemmas.List.{ext_get_or}
use Rattle.std.specs.Int.Signed.{le_z}
use Rattle.integers.specs.Integer.{floor_div, clip}
use Rattle.integers.proofs.Laws.{zs, sub, neg, le_z_true, le_z_false}
use Rattle.predictor.specs.Weights.{lowest_weight, highest_weight}
use Rattle.predictor.specs.WeightUpdate.{gain, weight_step, stepped_weights}
use Rattle.predictor.specs.Lengths.{stepped_weights_length}

pub gain_right : (rho v : ℤ) → le_z (pos 0) rho ≡ true → floor_div (v +ℤ pos (2 ^ nat_abs rho)) (2 ^ (nat_abs rho + 1)) ≡ gain rho v
unfolding gain
gain_right (pos r) v e = refl
gain_right (negsuc r) v e = absurd (omega (arith, le_z_true (pos 0) (negsuc r) e))

pub gain_left : (rho v : ℤ) → le_z (pos 0) rho ≡ false → floor_div (pos (2 ^ nat_abs (pos 0 -ℤ rho)) *ℤ v +ℤ pos 1) 2 ≡ gain rho v
unfolding gain
gain_left (pos r) v e = absurd (omega (arith, le_z_false (pos 0) (pos r) e))
gain_left (negsuc r) v e =
    let h : 0 + suc r ≡ suc r = omega arith in
    ap (λ (n : ℕ). floor_div (pos (2 ^ n) *ℤ v +ℤ pos 1) 2) h

-- the ends of the weights' range as the code has them
pub ends : (o : ℕ) (p : ℤ) (x : ℤ) → p ≡ pos (2 ^ (o + 2)) → clip x (pos 0 -ℤ p) (p -ℤ pos 1) ≡ clip x (lowest_weight o) (highest_weight o)
ends o p x e =
    let t : 0 < 2 ^ (o + 2) = pow_pos (o + 2) in
    let d = pos (2 ^ (o + 2)) in
    let low : pos 0 -ℤ p ≡ lowest_weight o = ap (λ (q : ℤ). pos 0 -ℤ q) e ∙ omega (zs, (sub (pos 0) d).value, (neg d).value) in
    let high : p -ℤ pos 1 ≡ highest_weight o = ap (λ (q : ℤ). q -ℤ pos 1) e ∙ omega (zs, (sub d (pos 1)).value) in
    ap₂ (λ (l h : ℤ). clip x l h) low high

module _ (o : ℕ) (rho : ℤ) (up : Bool) where
  stepped_at : (us ws : List ℤ) → length us ≡ length ws → (k : ℕ) → k < length ws
      → get_or (stepped_weights o (λ i. rho) up us ws) k (pos 0) ≡ weight_step o rho up (get_or us k (pos 0)) (get_or ws k (pos 0))
  unfolding stepped_weights
  stepped_at us [] e k p = absurd (omega arith)
  stepped_at [] (w ∷ ws) e k p = absurd (omega arith)
  stepped_at (u ∷ us) (w ∷ ws) e zero p = refl
  stepped_at (u ∷ us) (w ∷ ws) e (suc k) p = stepped_at us ws (omega arith) k (omega arith)

  pub stepped_are : (us ws ws' : List ℤ) → length us ≡ length ws → length ws' ≡ length ws
      → ((k : ℕ) → k < length ws → get_or ws' k (pos 0) ≡ weight_step o rho up (get_or us k (pos 0))
      (get_or ws k (pos 0))) → ws' ≡ stepped_weights o (λ i. rho) up us ws
  stepped_are us ws ws' e l h =
      ext_get_or (pos 0) ws' (stepped_weights o (λ i. rho) up us ws) (l ∙ sym (stepped_weights_length o (λ i. rho) up us ws e))
      (λ k p. h k (omega arith) ∙ sym (stepped_at us ws e k (omega arith)))

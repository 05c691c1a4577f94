-- What std's searches find, as the definitions say it: `all` of a band's first slots, and `position` of a sample out of range.
use Rattle.std.proofs.Common.{◌≡◌, refl, sym, ◌∙◌, ℕ, zero, suc, ◌+◌, ◌*◌, ◌-◌, ◌<◌, ◌≤◌, List, ℤ, pos, Bool, true, false, not, cond, ltb, length, get_or, take, drop, Option, Some, None, MatchOption, arith, rules, add-one, get_or-drop, length-drop}
use Rattle.std.specs.List.{list_all, slice_range, position, position_or_len}
use Rattle.std.proofs.lemmas.Bool.{ltb-true, ltb-false}
use Rattle.std.proofs.lemmas.List.Folds.{list_all_more}
use Rattle.std.proofs.lemmas.List.Recursion.{is_position_or_len}
use Rattle.settings.specs.declared.Image.{Image}
use Rattle.settings.specs.Range.{lowest, highest, in_range, first_out}
use Rattle.settings.specs.RangeLaws.{inside, first_out_most}
use Rattle.settings.specs.Tables.{table_stride, every, entry, weight_legal}

every_taken : (f : ℤ → Bool) (l : List ℤ) (b n : ℕ) → b + n ≤ length l → every n (λ i. f (get_or l (b + i) (pos 0))) ≡ list_all f (take n (drop b l))
unfolding every
every_taken f l b zero h = refl
every_taken f l b (suc n) h =
    rw (every_taken f l b n (omega arith), ← get_or-drop b l n (pos 0)) (sym (list_all_more f (drop b l) n (pos 0) (omega (arith, length-drop b l))) ∙ rw add-one refl)

pub every_slot : (tables : List ℤ) (q z n : ℕ) {r : Bool} → table_stride * z + n ≤ length tables → r ≡ list_all (weight_legal q) (slice_range tables (table_stride * z) (table_stride * z + n)) → r ≡ every n (λ i. weight_legal q (entry tables z i))
unfolding entry
every_slot tables q z n h e =
    let k : table_stride * z + n - table_stride * z ≡ n = omega arith in
    e ∙ rw k (sym (every_taken (weight_legal q) tables (table_stride * z) n h))

first_position : (I : Image) (l : List ℤ) → first_out I l ≡ position_or_len (λ s. not (in_range I s)) l
unfolding first_out
first_position I = is_position_or_len (first_out I) (λ s. not (in_range I s)) refl (λ s ss. search rules)

at_first : (k n : ℕ) → k ≤ n → (b : Bool) → ltb k n ≡ b → MatchOption (cond b (Some k) None) (k ≡ n) (λ j. (k ≡ j) × (j < n))
at_first k n h true e = (refl, ltb-true k n e)
at_first k n h false e = omega (arith, ltb-false k n e)

pub found : (I : Image) (l : List ℤ) {low high : ℤ} {r : Option ℕ} → low ≡ lowest I → high ≡ highest I → r ≡ position (λ s. not (inside low high s)) l → MatchOption r (first_out I l ≡ length l) (λ k. (first_out I l ≡ k) × (k < length l))
unfolding in_range
found I l p q e =
    rw (e, p, q, ← first_position I l) (at_first (first_out I l) (length l) (first_out_most I l) (ltb (first_out I l) (length l)) refl)

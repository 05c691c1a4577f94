-- A loop over the parts g a, g (a + 1), .. of a walk keeps: what is done of all places, and what is left of them.
use Rattle.std.proofs.Common.{◌≡◌, ℕ, ◌+◌, ◌-◌, ◌<◌, ◌≤◌, List, [], ◌++◌, append_assoc, append-nil, sym, ◌∙◌, ap, subst, add-one, arith}
use Rattle.settings.specs.Lists.{join, one}
use Rattle.body.specs.Order.{Place}
use Rattle.body_walk.specs.Direction.{WalkLaws}

-- ---- a join from its front

join_none : (g : ℕ → List Place) (a n : ℕ) → n ≡ 0 → join g a n ≡ []
unfolding join
join_none g a n e = ap (join g a) e

join_first : (g : ℕ → List Place) (a m n : ℕ) → m ≡ n + 1 → join g a m ≡ g a ++ join g (a + 1) n
unfolding join
join_first g a m n f = ap (join g a) (f ∙ add-one n) ∙ ap (λ (k : ℕ). g a ++ join g k n) (sym (add-one a))

-- ---- loops

-- all but what is left is done
pub record Going {S : Type 0} (Part : S → List Place → S → Type 0) (all left : List Place) (s s' : S) : Type 0 where
  pub done : List Place
  pub split : all ≡ done ++ left
  pub part : Part s done s'

-- left are the parts i .. n − 1 of g, and what comes behind them
pub record Loop {S : Type 0} (Part : S → List Place → S → Type 0) (all : List Place) (g : ℕ → List Place) (behind : List Place) (i n : ℕ) (s s' : S) : Type 0 where
  pub going : Going Part all (join g i (n - i) ++ behind) s s'

module _ {S Reason : Type 0} {Ready : S → List Place → Type 0} {Part : S → List Place → S → Type 0} {Stop : S → List Place → Reason → Type 0}
    (laws : WalkLaws Ready Part Stop) {all : List Place} {s : S} where
  pub begin : {left : List Place} → all ≡ left → Ready s all → Going Part all left s s
  begin e r = record { done = []; split = e; part = laws.none r }

  pub all_done : {s' : S} → Going Part all [] s s' → Part s all s'
  all_done {s' = s'} k = subst (λ (l : List Place). Part s l s') (sym (k.split ∙ append-nil k.done)) k.part

  module _ {p : Place} {left : List Place} {s' : S} (k : Going Part all (one p ++ left) s s') where
    pub turn : Ready s all → Ready s' (one p)
    turn r = laws.go_on (one p) left (subst (λ (l : List Place). Ready s l) k.split r) k.part

    pub again : {s'' : S} → Part s' (one p) s'' → Going Part all left s s''
    again m = record { done = k.done ++ one p; split = k.split ∙ sym (append_assoc k.done (one p) left); part = laws.then k.part m }

    pub stopping : {r : Reason} → Stop s' (one p) r → Stop s all r
    stopping {r} m = subst (λ (l : List Place). Stop s l r) (sym k.split) (laws.behind left k.part m)

module _ {S : Type 0} {Part : S → List Place → S → Type 0} {all : List Place} {s s' : S} where
  left_as : {left left' : List Place} → left ≡ left' → Going Part all left s s' → Going Part all left' s s'
  left_as e k = record { done = k.done; split = k.split ∙ ap (λ (l : List Place). k.done ++ l) e; part = k.part }

  pub enter : {left behind : List Place} {g : ℕ → List Place} {i n : ℕ} → left ≡ join g i (n - i) → Going Part all (left ++ behind) s s' → Loop Part all g behind i n s s'
  enter {behind = behind} e k = record { going = left_as (ap (λ (l : List Place). l ++ behind) e) k }

  module _ {g : ℕ → List Place} {behind : List Place} {i n : ℕ} (k : Loop Part all g behind i n s s') where
    pub first : i < n → Going Part all (g i ++ (join g (i + 1) (n - (i + 1)) ++ behind)) s s'
    first h = left_as (ap (λ (l : List Place). l ++ behind) (join_first g i (n - i) (n - (i + 1)) (omega arith)) ∙ append_assoc (g i) (join g (i + 1) (n - (i + 1))) behind) k.going

    pub leave : n ≤ i → Going Part all behind s s'
    leave h = left_as (ap (λ (l : List Place). l ++ behind) (join_none g i (n - i) (omega arith))) k.going

-- What the renamings make of an index, and what they are under binders.
use Rattle.std.proofs.Common.{ℕ, zero, suc, ◌+◌, ◌-◌, ◌<◌, ◌≤◌, ◌≡◌, refl, ap, sym, subst, arith, ◌∙◌}
use Rattle.theory_renaming.specs.Renaming.{Map, lift, lifts}
use Rattle.theory_substitution.specs.Closing.{closing}

pub past_below : (from n : ℕ) → n < from → n ≡ lifts from suc n
unfolding lift lifts
past_below zero n l = grind arith
past_below (suc from) zero l = refl
past_below (suc from) (suc n) l = ap suc (past_below from n (omega (arith, l)))

pub past_from : (from n : ℕ) → from ≤ n → n + 1 ≡ lifts from suc n
unfolding lift lifts
past_from zero n l = omega arith
past_from (suc from) zero l = grind arith
past_from (suc from) (suc n) l = let e = past_from from n (omega (arith, l)) in omega (arith, e)

pub closing_to : (gap n : ℕ) → n ≤ gap → n ≡ closing gap n
unfolding lift closing
closing_to zero zero l = refl
closing_to zero (suc n) l = grind arith
closing_to (suc gap) zero l = refl
closing_to (suc gap) (suc n) l = ap suc (closing_to gap n (omega (arith, l)))

pub closing_above : (gap n : ℕ) → gap < n → n - 1 ≡ closing gap n
unfolding lift closing
closing_above zero zero l = grind arith
closing_above zero (suc n) l = omega arith
closing_above (suc gap) zero l = grind arith
closing_above (suc gap) (suc n) l = let e = closing_above gap n (omega (arith, l)) in omega (arith, e, l)

more_lifts : (from by : ℕ) (m : Map) → lifts (by + from) m ≡ lifts by (lifts from m)
unfolding lifts
more_lifts from zero m = let e : 0 + from ≡ from = omega arith in ap (λ n. lifts n m) e
more_lifts from (suc by) m =
    let e : suc by + from ≡ suc (by + from) = omega arith in
    subst (λ n. lifts n m ≡ lift (lifts by (lifts from m))) (sym e) (ap lift (more_lifts from by m))

pub past_under : (from by : ℕ) → lifts (from + by) suc ≡ lifts by (lifts from suc)
past_under from by = let e : by + from ≡ from + by = omega arith in subst (λ n. lifts n suc ≡ lifts by (lifts from suc)) e (more_lifts from by suc)

closing_lifted : (gap : ℕ) → closing (suc gap) ≡ lift (closing gap)
unfolding closing
closing_lifted gap = λ j n. lift (closing gap) n

pub closing_under : (gap by : ℕ) → closing (gap + by) ≡ lifts by (closing gap)
unfolding lifts
closing_under gap zero = let e : gap + 0 ≡ gap = omega arith in ap closing e
closing_under gap (suc by) =
    let e : gap + suc by ≡ suc (gap + by) = omega arith in
    subst (λ n. closing n ≡ lift (lifts by (closing gap))) (sym e) (closing_lifted (gap + by) ∙ ap lift (closing_under gap by))

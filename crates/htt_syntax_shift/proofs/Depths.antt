-- A map, lifted under the binders that a walk has counted, and lifted under more of them.
use Rattle.std.proofs.Common.{ℕ, zero, suc, ◌+◌, ◌≡◌, subst, arith}
use Rattle.theory_renaming.specs.Renaming.{Map, lift, lifts}

module _ (m : Map) where
  pub deeper_by : (by d : ℕ) (k : Map) → lifts d m ≡ k → lifts (d + by) m ≡ lifts by k
  unfolding lifts
  deeper_by zero d k e = let none : d ≡ d + 0 = omega arith in subst (λ n. lifts n m ≡ k) none e
  deeper_by (suc by) d k e =
      let one : suc (d + by) ≡ d + suc by = omega arith in
      subst (λ n. lifts n m ≡ lift (lifts by k)) one (λ j. lift (deeper_by by d k e j))

  pub deeper : (d : ℕ) (k : Map) → lifts d m ≡ k → lifts (d + 1) m ≡ lift k
  unfolding lifts
  deeper d k e = deeper_by 1 d k e

  pub deeper_two : (d : ℕ) (k : Map) → lifts d m ≡ k → lifts (d + 2) m ≡ lift (lift k)
  unfolding lifts
  deeper_two d k e = deeper_by 2 d k e

  pub deeper_three : (d : ℕ) (k : Map) → lifts d m ≡ k → lifts (d + 3) m ≡ lift (lift (lift k))
  unfolding lifts
  deeper_three d k e = deeper_by 3 d k e

-- What a shift is.
use Rattle.std.proofs.Common.{◌≡◌, ℕ, zero, suc, ◌+◌, ◌<◌, ◌≤◌, refl, ap, arith}
use Rattle.theory_renaming.specs.Renaming.{lift, lifts, shifting}
use Rattle.theory_renaming.specs.Laws.{WhatAShiftIs}
use Rattle.theory_renaming.proofs.Composition.{term_joins}

stays : (from by n : ℕ) → n < from → shifting from by n ≡ n
unfolding lift lifts
stays zero by n l = grind arith
stays (suc from) by zero l = refl
stays (suc from) by (suc n) l = ap suc (stays from by n (omega (arith, l)))

goes : (from by n : ℕ) → from ≤ n → shifting from by n ≡ n + by
unfolding lift lifts
goes zero by n l = refl
goes (suc from) by zero l = grind arith
goes (suc from) by (suc n) l = let e = goes from by n (omega (arith, l)) in omega (arith, e)

adds : (from by more n : ℕ) → shifting from more (shifting from by n) ≡ shifting from (by + more) n
unfolding lift lifts
adds zero by more n = omega arith
adds (suc from) by more zero = refl
adds (suc from) by more (suc n) = ap suc (adds from by more n)

under : (from by n : ℕ) → lift (shifting from by) n ≡ shifting (suc from) by n
unfolding lift lifts
under from by n = refl

pub what_a_shift_is : WhatAShiftIs
what_a_shift_is = record {
  below = stays;
  others = goes;
  under_binder = under;
  twice = λ from by more t. term_joins (shifting from more) (shifting from by) (shifting from (by + more)) (adds from by more) t;
}

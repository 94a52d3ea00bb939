-- What a shift makes of an index under binders that a walk has counted.
use Rattle.std.proofs.Common.{ℕ, zero, suc, ◌+◌, ◌<◌, ◌≤◌, ◌≡◌, refl, sym, ap, ◌∙◌, arith}
use Rattle.theory_renaming.specs.Renaming.{lift, lifts, shifting}
use Rattle.theory_renaming.specs.Laws.{WhatAShiftIs}
use Rattle.theory_renaming.proofs.Shifts.{what_a_shift_is}

pub stays_below : (from by d n : ℕ) → n < d + from → n ≡ lifts d (shifting from by) n
unfolding lift lifts
stays_below from by zero n l = let e = what_a_shift_is.below from by n (omega (arith, l)) in sym e
stays_below from by (suc d) zero l = refl
stays_below from by (suc d) (suc n) l = ap suc (stays_below from by d n (omega (arith, l)))

pub goes_past : (from by d n : ℕ) → d + from ≤ n → n + by ≡ lifts d (shifting from by) n
unfolding lift lifts
goes_past from by zero n l = let e = what_a_shift_is.others from by n (omega (arith, l)) in sym e
goes_past from by (suc d) zero l = grind arith
goes_past from by (suc d) (suc n) l =
    let over : suc n + by ≡ suc (n + by) = omega arith in
    over ∙ ap suc (goes_past from by d n (omega (arith, l)))

-- Going past variables is a shift.
use Rattle.std.proofs.Common.{◌≡◌, ℕ, zero, suc, ◌+◌, arith}
use Rattle.theory_renaming.specs.Renaming.{lifts, shifting}
use Rattle.theory_states.specs.States.{past}

past_adds : (k n : ℕ) → past k n ≡ n + k
unfolding past
past_adds zero n = omega arith
past_adds (suc k) n = let rest : past k n ≡ n + k = past_adds k n in omega (arith, rest)

pub past_shifts : (k n : ℕ) → past k n ≡ shifting zero k n
unfolding lifts
past_shifts k n = past_adds k n

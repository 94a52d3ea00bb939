-- The limit of a chain.
use Rattle.std.proofs.Common.{◌≡◌, ℕ, zero, suc, refl}
use Rattle.theory_grammar.specs.Reading.{deeper}

-- a chain has the same limit at each level
pub further_is : (n : ℕ) → (deeper 63 n).further ≡ 63
unfolding deeper
further_is zero = refl
further_is (suc n) = further_is n

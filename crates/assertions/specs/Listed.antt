-- The map of a list of indices: what the list has at a place stands for that index, and the indices past the list
-- go past k variables in its place. So `listed (m ∷ i ∷ []) k` reads a state at the heaps m and i, where
-- mem is 0 and init is 1.
use Rattle.std.specs.Prelude.{ℕ, zero, suc, List, [], ◌∷◌}
use Rattle.theory_renaming.specs.Renaming.{Map}
use Rattle.theory_states.specs.States.{past}

abbrev pub listed : List ℕ → ℕ → Map
listed [] k n = past k n
listed (t ∷ ts) k zero = t
listed (t ∷ ts) k (suc n) = listed ts k n

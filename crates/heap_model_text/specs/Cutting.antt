-- A text cut at a mark.
use Rattle.std.specs.Prelude.{ℕ, List, [], ◌∷◌, nat_eq, if◌then◌else◌}

-- what stands before the first mark, or the whole where there is none
abbrev pub before_mark : ℕ → List ℕ → List ℕ
before_mark m [] = []
before_mark m (x ∷ xs) = if nat_eq x m then [] else x ∷ before_mark m xs

-- what stands from the first mark on
abbrev pub from_mark : ℕ → List ℕ → List ℕ
from_mark m [] = []
from_mark m (x ∷ xs) = if nat_eq x m then x ∷ xs else from_mark m xs

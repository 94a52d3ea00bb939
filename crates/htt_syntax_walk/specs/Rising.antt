-- Things in a row of which each binds one variable for those after it.
use Rattle.std.specs.Prelude.{ℕ, ◌+◌, List, [], ◌∷◌}

-- What a walk makes of each, where the first stands under so many binders.
unfoldable pub rising : {A : Type 0} → (ℕ → A → A) → ℕ → List A → List A
rising walk d [] = []
rising walk d (first ∷ others) = walk d first ∷ rising walk (d + 1) others

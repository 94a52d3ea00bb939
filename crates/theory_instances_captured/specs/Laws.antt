-- A key has no variables beside those that it captures: what occurs in its head and its fixed arguments is below
-- the number of its captured variables.
use Rattle.std.specs.Prelude.{◌≡◌, ◌<◌, ℕ, List, length, All, Some, slice_get}
use Rattle.theory_instances.specs.Calls.{Program}
use Rattle.theory_instances.specs.Keys.{Key, variables_met}
use Rattle.theory_instances.specs.Lists.{Taken, HasInstances}

abbrev pub MeetsOnlyCaptured : Key → Type 0
MeetsOnlyCaptured key = All (λ (n : ℕ). n < length key.captured) (variables_met key.head key.fixed)

abbrev pub KeysMeetOnlyCaptured : Type 0
KeysMeetOnlyCaptured =
    (p : Program) (instances : List Taken) (keys : List Key)
    → HasInstances p instances keys
    → (number : ℕ) (key : Key)
    → slice_get keys number ≡ Some key
    → MeetsOnlyCaptured key

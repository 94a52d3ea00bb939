-- A list of instances is closed: each call is one of an instance of the list. And the first one is main,
-- which has no parameters.
use Rattle.std.specs.Prelude.{◌≡◌, ◌≤◌, ◌<◌, ℕ, zero, List, [], length, Some, slice_get}
use Rattle.theory_instances.specs.Calls.{Program}
use Rattle.theory_instances.specs.Lists.{instance_limit}
use Rattle.theory_flat.specs.Flat.{Instance, HasFlatInstances}
use Rattle.theory_flat_closed.specs.Calls.{EachCall}

pub record ListsAreClosed : Type 0 where
  pub calls : (p : Program) (instances : List Instance) (number : ℕ) (instance : Instance)
      → HasFlatInstances p instances
      → slice_get instances number ≡ Some instance
      → EachCall (λ called. called < length instances) instance.body
  pub main_is_first : (p : Program) (instances : List Instance)
      → HasFlatInstances p instances
      → (instance : Instance) × (slice_get instances zero ≡ Some instance) × (instance.params ≡ [])
  pub few : (p : Program) (instances : List Instance) → HasFlatInstances p instances → length instances ≤ instance_limit

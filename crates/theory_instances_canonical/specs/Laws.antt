-- The keys of a canonical program's instances are canonical, and so are the bodies. A key uses made functions of
-- keys before it alone, and the body of an instance those up to its own.
use Rattle.std.specs.Prelude.{◌≡◌, ℕ, suc, List, take, Some, slice_get}
use Rattle.theory_canonical.specs.Canonical.{IsCanonicalComp}
use Rattle.theory_instances.specs.Calls.{Program}
use Rattle.theory_instances.specs.Keys.{Key}
use Rattle.theory_instances.specs.Lists.{Taken, HasInstances}
use Rattle.theory_instances_canonical.specs.Keys.{values_context, heads_with, IsCanonicalProgram, IsCanonicalKey}

pub record InstancesAreCanonical : Type 0 where
  pub keys : (p : Program) (instances : List Taken) (keys : List Key)
      → IsCanonicalProgram p
      → HasInstances p instances keys
      → (number : ℕ) (key : Key)
      → slice_get keys number ≡ Some key
      → IsCanonicalKey (heads_with p (take number keys)) p key
  pub bodies : (p : Program) (instances : List Taken) (keys : List Key)
      → IsCanonicalProgram p
      → HasInstances p instances keys
      → (number : ℕ) (taken : Taken)
      → slice_get instances number ≡ Some taken
      → (m : ℕ) × IsCanonicalComp (heads_with p (take (suc number) keys)) (values_context m) taken.body

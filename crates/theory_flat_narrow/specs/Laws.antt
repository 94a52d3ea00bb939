-- The monotypes of instances are within their limit. Of a value without parameters no argument leaves anything
-- that is tested when its instance is taken up, so the limit has to hold of its term.
use Rattle.std.specs.Prelude.{◌≡◌, ◌≤◌, ℕ, List, All, Some, slice_get}
use Rattle.theory_counts_monotypes.specs.Monotypes.{greatest_in_term}
use Rattle.theory_instances.specs.Calls.{ProgramVal, Program}
use Rattle.theory_instances.specs.Lists.{mono_limit}
use Rattle.theory_flat.specs.Flat.{Instance, HasFlatInstances}
use Rattle.theory_emission_valid.specs.Limits.{HasMonosWithin}

-- Each monotype in the term of a value is within the limit.
pub record IsNarrowProgram (p : Program) : Type 0 where
  pub terms : (number : ℕ) (v : ProgramVal) → slice_get p.vals number ≡ Some v → greatest_in_term v.term ≤ mono_limit

-- So is each monotype of a result, and each with which a step of a body is written.
abbrev pub InstancesAreNarrow : Type 0
InstancesAreNarrow =
    (p : Program) (instances : List Instance)
    → IsNarrowProgram p
    → HasFlatInstances p instances
    → All HasMonosWithin instances

-- The keys of a formed program's instances are formed, and so are the bodies, under the parameters.
use Rattle.std.specs.Prelude.{◌≡◌, ℕ, List, Some, All, slice_get}
use Rattle.htt_syntax.specs.Trees.{MonoTree}
use Rattle.theory_values.specs.Values.{IsClosed}
use Rattle.theory_formed_shapes.specs.Formed.{IsFormedComp}
use Rattle.theory_instances.specs.Calls.{Program}
use Rattle.theory_instances.specs.Keys.{Key}
use Rattle.theory_instances.specs.Lists.{Taken, HasInstances}
use Rattle.theory_instances_formed.specs.Formed.{values_shapes, file_with, IsFormedProgram, IsFormedKey}

pub record InstancesAreFormed : Type 0 where
  pub keys : (recs : List (List MonoTree)) (p : Program) (instances : List Taken) (keys : List Key)
      → IsFormedProgram recs p
      → HasInstances p instances keys
      → (number : ℕ) (key : Key)
      → slice_get keys number ≡ Some key
      → IsFormedKey (file_with recs p keys) p key
  pub params : (recs : List (List MonoTree)) (p : Program) (instances : List Taken) (keys : List Key)
      → IsFormedProgram recs p
      → HasInstances p instances keys
      → (number : ℕ) (taken : Taken)
      → slice_get instances number ≡ Some taken
      → All IsClosed taken.params × IsClosed taken.result
  pub bodies : (recs : List (List MonoTree)) (p : Program) (instances : List Taken) (keys : List Key)
      → IsFormedProgram recs p
      → HasInstances p instances keys
      → (number : ℕ) (taken : Taken)
      → slice_get instances number ≡ Some taken
      → IsFormedComp (file_with recs p keys) (values_shapes taken.params) taken.body taken.result

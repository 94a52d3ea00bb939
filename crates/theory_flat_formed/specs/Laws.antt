-- The flat bodies of a formed program's instances fit together by monotypes.
use Rattle.std.specs.Prelude.{List}
use Rattle.htt_syntax.specs.Trees.{MonoTree}
use Rattle.theory_instances.specs.Calls.{Program}
use Rattle.theory_instances.specs.Keys.{Key}
use Rattle.theory_instances.specs.Lists.{Taken, HasInstances}
use Rattle.theory_instances_formed.specs.Formed.{IsFormedProgram}
use Rattle.theory_flat.specs.Flat.{Instance, AreFlat, HasFlatInstances}
use Rattle.theory_flat_typed.specs.Typed.{AreTyped}

pub record FlatBodiesAreTyped : Type 0 where
  pub bodies : (recs : List (List MonoTree)) (p : Program) (taken : List Taken) (keys : List Key) (instances : List Instance)
      → IsFormedProgram recs p
      → HasInstances p taken keys
      → AreFlat p keys taken instances
      → AreTyped instances
  pub programs : (recs : List (List MonoTree)) (p : Program) (instances : List Instance)
      → IsFormedProgram recs p
      → HasFlatInstances p instances
      → AreTyped instances

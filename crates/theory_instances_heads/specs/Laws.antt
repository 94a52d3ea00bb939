-- The instances of a canonical program have such heads.
use Rattle.std.specs.Prelude.{List}
use Rattle.theory_instances.specs.Calls.{Program}
use Rattle.theory_instances.specs.Keys.{Key}
use Rattle.theory_instances.specs.Lists.{Taken, HasInstances}
use Rattle.theory_instances_canonical.specs.Keys.{IsCanonicalProgram}
use Rattle.theory_instances_heads.specs.Heads.{AreInstanceHeads, heads_of_instances}

abbrev pub InstancesHaveHeads : Type 0
InstancesHaveHeads =
    (p : Program) (instances : List Taken) (keys : List Key)
    → IsCanonicalProgram p
    → HasInstances p instances keys
    → AreInstanceHeads p keys (heads_of_instances p keys)

-- The triples of a file's values are met by what its text does.
use Rattle.std.specs.Prelude.{◌≡◌, ℕ, List, All, Some, slice_get}
use Rattle.htt_syntax.specs.Trees.{TripleTree, y_hoare}
use Rattle.theory_values.specs.Values.{IsWord}
use Rattle.theory_values.specs.Heaps.{Heap}
use Rattle.theory_truth.specs.Predicates.{RecTree}
use Rattle.theory_meaning.specs.Closures.{Items}
use Rattle.theory_triples.specs.Triples.{MeetsTriple, run_of_val}
use Rattle.theory_typing.specs.Contexts.{Environment}
use Rattle.theory_typing_canonical.specs.Environments.{heads_of, IsCanonicalEnvironment}
use Rattle.theory_denotation.specs.Valuations.{HeadEntries}
use Rattle.theory_denotation.specs.Valued.{HeadsRun}
use Rattle.theory_typing_sound.specs.Environments.{EnvironmentMeans}
use Rattle.theory_meaning_simulation.specs.Simulation.{ItemsDo}

-- Where the entries of heads mean the types of an environment, and the written items do what these
-- entries denote, the run of a value meets the triple of its type, for all fuel, heaps and choices.
abbrev pub TextMeetsTriples : Type 0
TextMeetsTriples =
    (table : List RecTree) (items : Items) (env : Environment) (e : HeadEntries)
    → IsCanonicalEnvironment env
    → HeadsRun (heads_of env)
    → EnvironmentMeans table env e
    → ItemsDo items env e
    → (number : ℕ) (spec : TripleTree)
    → slice_get env.vals number ≡ Some (y_hoare spec)
    → (fuel : ℕ) (cs : List ℕ)
    → All IsWord cs
    → (h k : Heap)
    → MeetsTriple table spec (run_of_val items number fuel cs) h k

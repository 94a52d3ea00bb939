-- What flat bodies come to: what the bodies of the instances denote, with the same fuel. A call takes one unit of
-- fuel in both.
use Rattle.std.specs.Prelude.{◌≡◌, ℕ, List, [], reverse, Some, slice_get}
use Rattle.theory_values.specs.Values.{Value}
use Rattle.theory_values.specs.Heaps.{Heap}
use Rattle.theory_canonical.specs.Skeletons.{sk_c}
use Rattle.theory_denotation.specs.Valuations.{HeadEntries}
use Rattle.theory_denotation.specs.Recursion.{entered_running}
use Rattle.theory_denotation.specs.Denotation.{term_den, comp_den}
use Rattle.theory_instances.specs.Calls.{ProgramVal, Program}
use Rattle.theory_instances.specs.Keys.{Key}
use Rattle.theory_instances.specs.Lists.{Taken, HasInstances}
use Rattle.theory_flat.specs.Flat.{Instance, AreFlat}
use Rattle.theory_flat.specs.Reading.{calling, flat_run}
use Rattle.theory_instances_keys.specs.Laws.{with_values}
use Rattle.theory_instances_canonical.specs.Keys.{IsCanonicalProgram}
use Rattle.theory_instances_heads.specs.Heads.{AreInstanceHeads}

-- The values are those of the parameters in order, and the last one stands innermost.
pub record FlatBodiesDenote : Type 0 where
  pub bodies : (p : Program) (taken : List Taken) (keys : List Key) (instances : List Instance) (e : HeadEntries)
      → IsCanonicalProgram p
      → HasInstances p taken keys
      → AreFlat p keys taken instances
      → AreInstanceHeads p keys e
      → (number : ℕ) (row : Taken)
      → slice_get taken number ≡ Some row
      → (n : ℕ) (values : List Value) (h : Heap) (choices : List ℕ)
      → flat_run instances n number values h choices
      ≡ comp_den e (with_values (reverse values)) row.body n h choices
  pub calls : (p : Program) (taken : List Taken) (keys : List Key) (instances : List Instance) (e : HeadEntries)
      → IsCanonicalProgram p
      → HasInstances p taken keys
      → AreFlat p keys taken instances
      → AreInstanceHeads p keys e
      → (number : ℕ) (row : Taken)
      → slice_get taken number ≡ Some row
      → (n : ℕ) (values : List Value) (h : Heap) (choices : List ℕ)
      → calling instances n number values h choices
      ≡ entered_running (comp_den e (with_values (reverse values)) row.body) n h choices

-- The flat body of main comes to what main's canonical term denotes, with the same fuel.
abbrev pub MainDenotes : Type 0
MainDenotes =
    (p : Program) (taken : List Taken) (keys : List Key) (instances : List Instance) (e : HeadEntries)
    → IsCanonicalProgram p
    → HasInstances p taken keys
    → AreFlat p keys taken instances
    → AreInstanceHeads p keys e
    → (number : ℕ) (main : ProgramVal)
    → p.main ≡ Some number
    → slice_get p.vals number ≡ Some main
    → (n : ℕ) (h : Heap) (choices : List ℕ)
    → flat_run instances n 0 [] h choices ≡ term_den e [] main.term sk_c n h choices

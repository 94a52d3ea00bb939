-- The runs of values of derived files.
use Rattle.std.specs.Prelude.{◌≢◌, ℕ, List, [], ◌∷◌, All}
use Rattle.htt_syntax.specs.Trees.{TripleTree}
use Rattle.theory_values.specs.Values.{IsWord}
use Rattle.theory_values.specs.Heaps.{Heap, IsHeap}
use Rattle.theory_truth.specs.Predicates.{RecTree}
use Rattle.theory_meaning.specs.Closures.{RunValue, done, fault}
use Rattle.theory_triples.specs.Triples.{MeetsTriple, run_of_val}
use Rattle.theory_items.specs.Items.{ItemTree}
use Rattle.theory_items.specs.Examples.{doubles}
use Rattle.theory_file_derived.specs.Derived.{texts_of}
use Rattle.theory_file_calls.specs.Parts.{triple_of}
use Rattle.theory_file_calls.specs.Calls.{counted}
use Rattle.theory_file_calls.specs.Takers.{takers}
use Rattle.theory_file_calls.specs.Endless.{endless}
use Rattle.theory_file_recursion.specs.Doubling.{doubling_file, gives_twice_two}

-- The run of this value of the file meets the triple, from every heap beside every frame, for all fuel and all
-- choices that are words.
abbrev pub IsMet : List RecTree → List ItemTree → ℕ → TripleTree → Type 0
IsMet table items number spec =
    (fuel : ℕ) (cs : List ℕ)
    → All IsWord cs
    → (h k : Heap)
    → MeetsTriple table spec (run_of_val (texts_of items) number fuel cs) h k

pub record WorkedRuns : Type 0 where
  -- `three` comes to 3, which its run leaves to `two`, and `two` to `one`
  pub three : IsMet [] counted 2 (triple_of 3)
  -- what gives a computation of 1 to a value that runs it twice comes to 2
  pub main_of_takers : IsMet [] takers 2 (triple_of 2)
  -- what runs the recursive function comes to a word that is twice 2
  pub main_of_doubling : IsMet (doubles ∷ []) doubling_file 1 gives_twice_two
  -- the value g, of which the proof for f speaks and which runs f, doesn't come to an end, whatever the fuel, and
  -- doesn't fault
  pub never_ends : (fuel : ℕ) (cs : List ℕ)
      → All IsWord cs
      → (h : Heap)
      → IsHeap h
      → (v : RunValue) (left : Heap) (rest : List ℕ)
      → run_of_val (texts_of endless) 1 fuel cs h ≢ done v left rest
  pub never_faults : (fuel : ℕ) (cs : List ℕ)
      → All IsWord cs
      → (h : Heap)
      → IsHeap h
      → run_of_val (texts_of endless) 1 fuel cs h ≢ fault

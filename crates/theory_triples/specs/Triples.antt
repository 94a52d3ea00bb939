-- A triple with frame: a run from a heap whose one part makes the precondition true never faults, and
-- where it ends the other part is unchanged and the rest makes the postcondition true.
use Rattle.std.specs.Prelude.{◌≡◌, ◌≢◌, ℕ, List, [], ◌∷◌, None}
use Rattle.htt_syntax.specs.Trees.{MonoTree, TripleTree, CompTree, triple, t_val, t_var, c_ret, c_step, s_run}
use Rattle.theory_values.specs.Values.{Value, HasType}
use Rattle.theory_values.specs.Heaps.{Heap, IsHeap, IsJoin}
use Rattle.theory_truth.specs.Worlds.{th_value, th_heap}
use Rattle.theory_truth.specs.Truth.{Holds}
use Rattle.theory_truth.specs.Predicates.{RecTree, recs_of}
use Rattle.theory_meaning.specs.Closures.{RunValue, base, nothing, RunResult, done, fault, Items}
use Rattle.theory_meaning.specs.Meaning.{run}

-- The precondition stands under the heap mem.
abbrev pub PreHolds : List RecTree → TripleTree → Heap → Type 0
PreHolds table (triple pre mono post) h = Holds (recs_of table) (th_heap h ∷ []) pre

-- The postcondition stands under the result, the heap init and the heap mem.
abbrev pub PostHolds : List RecTree → TripleTree → Value → Heap → Heap → Type 0
PostHolds table (triple pre mono post) v init mem =
    Holds (recs_of table) (th_heap mem ∷ th_heap init ∷ th_value v ∷ []) post

-- The monotype of the result.
abbrev pub result_mono : TripleTree → MonoTree
result_mono (triple pre mono post) = mono

-- A run from h beside the frame k has ended with a value and the heap g: g is the frame and an own
-- part, of which the postcondition is true.
pub record Leaves (table : List RecTree) (spec : TripleTree) (h k : Heap) (v : RunValue) (g : Heap) : Type 0 where
  pub own : Heap
  pub own_is_heap : IsHeap own
  pub parts : IsJoin g own k
  pub value : Value
  pub is_value : v ≡ base value
  pub typed : HasType value (result_mono spec)
  pub post : PostHolds table spec value h own

-- The triple of a run from h beside the frame k, by what the run comes to from the whole heap. The
-- triple is a canonical one. A theorem that says this of a run takes words as its choices.
pub record MeetsTriple (table : List RecTree) (spec : TripleTree) (result : Heap → RunResult) (h k : Heap) :
    Type 0 where
  pub no_fault : (whole : Heap) → IsHeap whole → IsJoin whole h k → PreHolds table spec h → result whole ≢ fault
  pub ends_so : (whole : Heap)
      → IsHeap whole
      → IsJoin whole h k
      → PreHolds table spec h
      → (v : RunValue) (g : Heap) (rest : List ℕ)
      → result whole ≡ done v g rest
      → Leaves table spec h k v g

-- x <- main; ret x
abbrev pub main_comp : ℕ → CompTree
main_comp number = c_step (s_run (t_val number) None) (c_ret (t_var 0))

-- The run of a value of the file, with this fuel and these choices, from a heap.
abbrev pub run_of_val : Items → ℕ → ℕ → List ℕ → Heap → RunResult
run_of_val items number fuel cs h = run items fuel nothing (main_comp number) h cs

-- What the code of a file does beside what the run of main does, and what a halt tells.
use Rattle.std.specs.Prelude.{◌≡◌, ◌≢◌, ◌↔◌, ◌⊎◌, ℕ, List}
use Rattle.htt_syntax_words.specs.declared.words.Kind.{Kind}
use Rattle.htt_syntax.specs.Trees.{TripleTree, triple, f_tt, f_emp}
use Rattle.theory_values.specs.Values.{Value, HasType, encoding}
use Rattle.theory_values.specs.Heaps.{Heap, IsHeap, empty_heap}
use Rattle.theory_truth.specs.Predicates.{RecTree}
use Rattle.theory_meaning.specs.Closures.{base}
use Rattle.theory_triples.specs.Triples.{PostHolds, Leaves, result_mono}
use Rattle.word_loader_code.specs.declared.code.Code.{Code}
use Rattle.word_loader_code.specs.Machine.{Machine, going, halted, faulted, asking, machine_after}
use Rattle.theory_items.specs.Items.{ItemTree}
use Rattle.theory_emitted.specs.Laws.{CodeHalts, CodeAsks}
use Rattle.theory_extraction_faithful.specs.Laws.{TextEnds, TextAsks}

-- A halt of code that was started on h beside the other part k: the words are those of a value, and the heap is
-- k and a rest of which the postcondition is true with this value.
pub record HaltIsRight (table : List RecTree) (spec : TripleTree) (h k : Heap) (words : List ℕ) (g : Heap) : Type 0 where
  pub value : Value
  pub words_are : words ≡ encoding value
  pub leaves : Leaves table spec h k (base value) g

-- The code that is started on the whole of h and k: it doesn't fault after any number of steps, it halts and
-- asks exactly where the run of main's text ends and asks, and each halt is right.
pub record IsSoundFrom (items : List ItemTree) (main : ℕ) (code : Code) (table : List RecTree) (spec : TripleTree)
    (choices : List ℕ) (whole h k : Heap) : Type 0 where
  pub never_faults : (steps : ℕ) (kind : Kind) (l : ℕ) → machine_after code whole choices steps ≢ faulted kind l
  pub halts : (words : List ℕ) (g : Heap)
      → CodeHalts code whole choices words g ↔ TextEnds items main whole choices words g
  pub asks : CodeAsks code whole choices ↔ TextAsks items main whole choices
  pub leaves : (words : List ℕ) (g : Heap)
      → CodeHalts code whole choices words g
      → HaltIsRight table spec h k words g

-- A canonical precondition that the empty heap meets: `Emp(mem)` or `tt`.
abbrev pub StartsEmpty : TripleTree → Type 0
StartsEmpty (triple pre mono post) = (pre ≡ f_emp 0) ⊎ (pre ≡ f_tt)

-- A halt of code that was started on the empty heap: the words are those of a value, and the postcondition is
-- true with this value, the empty heap before and this heap.
pub record ReturnIsRight (table : List RecTree) (spec : TripleTree) (words : List ℕ) (g : Heap) : Type 0 where
  pub value : Value
  pub words_are : words ≡ encoding value
  pub typed : HasType value (result_mono spec)
  pub is_heap : IsHeap g
  pub post : PostHolds table spec value empty_heap g

-- So the machine goes on, or it has halted rightly. It has not faulted, and it doesn't ask.
abbrev pub GoesOnOrReturns : List RecTree → TripleTree → Machine → Type 0
GoesOnOrReturns table spec (going h stack choices) = Unit {0}
GoesOnOrReturns table spec (halted words g) = ReturnIsRight table spec words g
GoesOnOrReturns table spec (faulted kind l) = ⊥
GoesOnOrReturns table spec asking = ⊥

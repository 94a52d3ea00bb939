-- The laws of triples.
use Rattle.std.specs.Prelude.{List}
use Rattle.htt_syntax.specs.Trees.{TripleTree}
use Rattle.theory_values.specs.Heaps.{Heap, IsHeap, IsSame}
use Rattle.theory_truth.specs.Truth.{NotNot}
use Rattle.theory_truth.specs.Predicates.{RecTree}
use Rattle.theory_meaning.specs.Closures.{RunValue, RunResult}
use Rattle.theory_triples.specs.Triples.{Leaves, MeetsTriple}

pub record TripleLaws : Type 0 where
  -- the own part is determined: it is what the frame leaves of the heap
  pub own_is_one : {table : List RecTree} {spec : TripleTree} {h k g : Heap} {v : RunValue}
      (a b : Leaves table spec h k v g)
      → IsSame a.own b.own
  -- what is left beside a heap is a heap as a whole
  pub whole_is_heap : {table : List RecTree} {spec : TripleTree} {h k g : Heap} {v : RunValue}
      → Leaves table spec h k v g
      → IsHeap k
      → IsHeap g
  -- a result that isn't denied is one, and so is a triple
  pub leaves_is_stable : (table : List RecTree) (spec : TripleTree) (h k : Heap) (v : RunValue) (g : Heap)
      → NotNot (Leaves table spec h k v g)
      → Leaves table spec h k v g
  pub triple_is_stable : (table : List RecTree) (spec : TripleTree) (result : Heap → RunResult) (h k : Heap)
      → NotNot (MeetsTriple table spec result h k)
      → MeetsTriple table spec result h k

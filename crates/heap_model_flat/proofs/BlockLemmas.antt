-- What callers may use of every heap.
use Rattle.theory_values.specs.Heaps.{IsHeap}
use Rattle.heap_model_flat.specs.declared.heap.Heap.{Heap}
use Rattle.heap_model_flat.specs.Blocks.{blocks_of}

-- the blocks of a heap stand at words other than 0, and hold words
pub blocks_are_heap : (h : Heap) → IsHeap (blocks_of h)
unfolding blocks_of
blocks_are_heap h = h.is_heap

-- What callers see of a heap: its blocks.
use Rattle.theory_values.specs.Heaps.{Heap as Blocks}
use Rattle.heap_model_flat.specs.Spans.{flat_blocks}
use Rattle.heap_model_flat.specs.declared.heap.Heap.{Heap}

unfoldable pub blocks_of : Heap → Blocks
blocks_of h = flat_blocks h.words.items h.table.entries

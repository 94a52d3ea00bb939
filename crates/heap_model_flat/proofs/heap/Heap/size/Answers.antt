use Rattle.std.proofs.Common.{arith}
use Rattle.heap_model_flat.specs.Blocks.{blocks_of}
use Rattle.heap_model_flat.proofs.SizeLemmas.{flat_sized}
use Rattle.heap_model_flat.proofs.heap.Heap.size.Goals as goal

pub returns : goal.returns
unfolding blocks_of
returns c =
    let h = c.args.self.now in
    record { size = flat_sized h.words.items h.table.entries h.dead _ h.is_heap h.laid_out h.counted c.len-2.ensures.ordered (omega arith) }

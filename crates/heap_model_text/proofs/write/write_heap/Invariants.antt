use Rattle.std.proofs.Common.{◌-◌, ◌^◌, string_bytes}
use Rattle.heap_model_flat.specs.Blocks.{blocks_of}
use Rattle.heap_model_text.proofs.WriteLemmas.{WrittenSoFar}
use Rattle.heap_model_text.proofs.write.write_heap.Given as goal

abbrev pub invariant-loop-at : goal.invariant-loop-at
invariant-loop-at l = WrittenSoFar (blocks_of l.heap) l.last (string_bytes l.text)

abbrev pub decreases-loop-at : goal.decreases-loop-at
decreases-loop-at l = 2 ^ 64 - l.last

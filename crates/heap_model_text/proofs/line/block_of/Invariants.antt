use Rattle.std.proofs.Common.{length}
use Rattle.heap_model_text.proofs.WordLemmas.{WordsSoFar}
use Rattle.heap_model_text.proofs.line.block_of.Given as goal

abbrev pub invariant-loop-mark : goal.invariant-loop-mark
invariant-loop-mark l = WordsSoFar l.tail l.rest l.block.items

abbrev pub decreases-loop-mark : goal.decreases-loop-mark
decreases-loop-mark l = length l.rest

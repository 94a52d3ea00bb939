use Rattle.std.proofs.Common.{length}
use Rattle.heap_model_flat.specs.Blocks.{blocks_of}
use Rattle.heap_model_text.proofs.ReadLemmas.{ReadSoFar}
use Rattle.heap_model_text.proofs.read.read_lines.Given as goal

abbrev pub invariant-loop-rest : goal.invariant-loop-rest
invariant-loop-rest l = ReadSoFar l.bytes l.rest (blocks_of l.heap) l.last l.line

abbrev pub decreases-loop-rest : goal.decreases-loop-rest
decreases-loop-rest l = length l.rest

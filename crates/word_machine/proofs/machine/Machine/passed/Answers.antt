use Rattle.std.proofs.lemmas.Result.{IfOk-weaker}
use Rattle.heap_model_flat.specs.Blocks.{blocks_of}
use Rattle.word_machine.proofs.HeapLimit.{heap_passed}
use Rattle.word_machine.proofs.machine.Machine.passed.Goals as goal

pub returns-in-Alloc : goal.returns-in-Alloc
returns-in-Alloc c =
    rw c.in-Alloc.is
    (IfOk-weaker c.past-in-Alloc.result _ _
    (λ passed e.
    rw e (heap_passed c.args.code.now (blocks_of c.args.self.now.heap) c.args.self.now.frames c.in-Alloc.field-0 c.in-Alloc.field-1
    c.in-Alloc.n c.size.result c.size.ensures.size)) c.past-in-Alloc.ensures)

use Rattle.heap_model_flat.specs.Blocks.{blocks_of}
use Rattle.word_machine.specs.States.{state_of}
use Rattle.word_machine.proofs.Ending.{Runs}
use Rattle.word_machine.proofs.runs.run.Given as goal

abbrev pub invariant-loop : goal.invariant-loop
invariant-loop l = Runs l.code (blocks_of l.fn.heap) l.steps l.counter (state_of l.machine) l.fresh

use Rattle.heap_model_flat.specs.Blocks.{blocks_of}
use Rattle.word_machine.specs.States.{state_of}
use Rattle.word_machine.proofs.Stepping.{over_steps, is_going}
use Rattle.word_machine.proofs.machine.Machine.step.Goals as goal

pub returns-in-Some-clause-steps : goal.returns-in-Some-clause-steps
unfolding state_of
returns-in-Some-clause-steps c =
    let m = c.args.self.now in
    λ rest. rw c.answer_of.ensures (over_steps c.args.code.now m.over c.in-Some.over (blocks_of m.heap) m.frames c.args.fresh rest c.in-Some.is)

pub next_instr-instr-requires-clause-going : goal.next_instr-instr-requires-clause-going
unfolding state_of
next_instr-instr-requires-clause-going c =
    let m = c.args.self.now in
    is_going m.over (blocks_of m.heap) m.frames c.in_default.is

pub go-requires-clause-going : goal.go-requires-clause-going
unfolding state_of
go-requires-clause-going c =
    let m = c.args.self.now in
    is_going m.over (blocks_of m.heap) m.frames c.in_default.is

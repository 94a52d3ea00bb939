-- The state of the written machine that a machine is in.
use Rattle.std.specs.Prelude.{[], Option, Some, None}
use Rattle.theory_values.specs.Heaps.{Heap}
use Rattle.heap_model_flat.specs.Blocks.{blocks_of}
use Rattle.word_machine_frames.specs.Stacks.{locals_of}
use Rattle.word_loader_code.specs.Machine.{Machine as State, Stack, going, halted, faulted}
use Rattle.word_machine.specs.declared.stepped.Stepped.{Stepped}
use Rattle.word_machine.specs.declared.stepped.Stepped.TheVariants as stepped
use Rattle.word_machine.specs.declared.machine.Machine.{Machine}
use Rattle.word_machine.specs.declared.machine.Over.{Over}
use Rattle.word_machine.specs.declared.machine.Over.TheVariants.{Halted, Fault}

abbrev pub state : Option Over → Heap → Stack → State
state None h stack = going h stack []
state (Some Halted) h stack = halted (locals_of stack) h
state (Some (Fault kind l)) h stack = faulted kind l

-- one that goes on has no choices of its own: each step brings one
unfoldable pub state_of : Machine → State
state_of m = state m.over (blocks_of m.heap) m.frames

-- how a machine is over after a step with this answer, if it is
abbrev pub over_after : Stepped → Option Over
over_after stepped.Halted = Some Halted
over_after (stepped.Fault kind l) = Some (Fault kind l)
over_after _ = None

-- what a machine that is over answers
abbrev pub over_answer : Over → Stepped
over_answer Halted = stepped.Halted
over_answer (Fault kind l) = stepped.Fault kind l

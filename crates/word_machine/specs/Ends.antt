-- The end of a machine that has halted.
use Rattle.std.specs.Prelude.{◌≡◌}
use Rattle.heap_model_flat.specs.Blocks.{blocks_of}
use Rattle.word_loader_code.specs.Machine.{Machine as State, halted}
use Rattle.word_machine.specs.declared.runs.End.{End}
use Rattle.word_machine.specs.declared.runs.End.TheVariants.{Halted}

abbrev pub HaltsAs : State → End → Type 0
HaltsAs state (Halted words k) = state ≡ halted words (blocks_of k)
HaltsAs state other = ⊥

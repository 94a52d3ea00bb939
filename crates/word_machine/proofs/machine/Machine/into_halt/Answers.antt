use Rattle.std.proofs.Common.{List, ℕ, ◌∙◌, ap, sym}
use Rattle.word_loader_code.specs.Machine.{halted}
use Rattle.heap_model_flat.specs.Blocks.{blocks_of}
use Rattle.word_machine.specs.States.{state_of}
use Rattle.word_machine.proofs.Stepping.{halt_is}
use Rattle.word_machine.proofs.machine.Machine.into_halt.Goals as goal

pub returns : goal.returns
unfolding state_of
returns c =
    let m = c.args.self in
    halt_is m.over (blocks_of m.heap) m.frames c.requires
    ∙ ap (λ (l : List ℕ). halted l (blocks_of m.heap)) (sym (c.of.ensures.same_items ∙ c.into_words.ensures))

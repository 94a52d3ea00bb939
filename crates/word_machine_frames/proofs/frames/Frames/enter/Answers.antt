use Rattle.std.proofs.Common.{refl}
use Rattle.word_machine_frames.specs.Activations.{stack_of, StandInOrder}
use Rattle.word_machine_frames.proofs.frames.Frames.enter.Goals as goal

pub invariant_of-result : goal.invariant_of-result
unfolding StandInOrder
invariant_of-result c = rw c.new.ensures.items refl

pub returns : goal.returns
unfolding stack_of
returns c = rw (c.new.ensures.items, c.in_ok-words.ensures) refl

use Rattle.std.proofs.Common.{◌∙◌, ap, sym, arith}
use Rattle.std.proofs.lemmas.List.{length-reverse}
use Rattle.word_machine_frames.specs.Stacks.{frame_total}
use Rattle.word_machine_frames.proofs.Stacks.{frame_total-stack_of}
use Rattle.word_machine_frames.proofs.frames.Frames.total.Goals as goal

pub returns : goal.returns
returns c =
    let sum = ap frame_total (sym c.self.view_is) ∙ frame_total-stack_of _ _ _ c.self.invariant in
    omega (arith, length-reverse c.self.inside.below.items, sum)

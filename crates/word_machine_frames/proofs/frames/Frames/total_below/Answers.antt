use Rattle.std.proofs.Common.{◌∙◌, ap, sym, arith}
use Rattle.std.proofs.lemmas.List.{length-reverse}
use Rattle.word_machine_frames.specs.Stacks.{total_below}
use Rattle.word_machine_frames.proofs.Stacks.{total_below-stack_of, start_within}
use Rattle.word_machine_frames.proofs.frames.Frames.total_below.Goals as goal

pub overflow_add-result : goal.overflow_add-result
overflow_add-result c =
    let within = start_within _ _ _ c.self.invariant in
    let few = c.self.inside.below.small in
    let some = c.self.inside.words.small in
    omega (arith, few, some)

pub returns : goal.returns
returns c =
    let sum = ap total_below (sym c.self.view_is) ∙ total_below-stack_of _ _ _ c.self.invariant in
    omega (arith, length-reverse c.self.inside.below.items, sum)

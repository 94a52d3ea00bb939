use Rattle.std.proofs.Common.{◌≡◌, ◌+◌, ◌∙◌, ap, sym, refl, arith}
use Rattle.word_loader_code.specs.Machine.{Frame, top, goes_on}
use Rattle.word_machine_frames.proofs.Stacks.{goes_on-stack_of, locals-view, top-view}
use Rattle.word_machine_frames.proofs.frames.Frames.go_on.Goals as goal

pub overflow_add-self : goal.overflow_add-self
overflow_add-self c =
    let next = ap (λ (frame : Frame). frame.next) (top-view _ _ _ _ c.self.view_is) in
    omega arith

pub returns : goal.returns
returns c =
    let stack = c.args.self.now in
    let next : (top stack).next ≡ c.self.inside.top.next = ap (λ (frame : Frame). frame.next) (top-view _ _ _ _ c.self.view_is) in
    rw next (goes_on-stack_of _ _ _ _ _ _ c.self.view_is refl ∙ ap (goes_on stack (c.self.inside.top.next + 1)) (sym (locals-view _ _ _ _ c.self.view_is)))

use Rattle.std.proofs.Common.{◌+◌, ap, arith}
use Rattle.word_loader_code.specs.Machine.{Frame}
use Rattle.word_machine_frames.proofs.Stacks.{room, top-view, start_within, written-stack_of}
use Rattle.word_machine_frames.proofs.Parts.{set-with_words}
use Rattle.word_machine_frames.proofs.frames.Frames.set_word.Goals as goal

pub overflow_add-at : goal.overflow_add-at
overflow_add-at c =
    let all = room _ _ _ _ c.self.view_is c.self.invariant in
    omega arith

pub index_mut-requires : goal.index_mut-requires
index_mut-requires c =
    let all = room _ _ _ _ c.self.view_is c.self.invariant in
    omega arith

pub overflow_add-self : goal.overflow_add-self
overflow_add-self c =
    let next = ap (λ (frame : Frame). frame.next) (top-view _ _ _ _ c.self.view_is) in
    omega arith

pub returns : goal.returns
returns c =
    let all = room _ _ _ _ c.self.view_is c.self.invariant in
    written-stack_of _ _ _ _ _ _ _ c.self.view_is (start_within _ _ _ c.self.invariant)
    (set-with_words c.self.inside.words.items (c.self.inside.top.start + c.args.place) c.args.word (omega arith))

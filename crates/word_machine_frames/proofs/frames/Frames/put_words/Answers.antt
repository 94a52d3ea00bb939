use Rattle.std.proofs.Common.{◌≡◌, ◌+◌, ◌∙◌, length, ap, arith}
use Rattle.std.proofs.lemmas.List.{with_items_is}
use Rattle.word_loader_code.specs.Machine.{Frame}
use Rattle.word_machine_frames.proofs.Stacks.{room, top-view, start_within, written-stack_of}
use Rattle.word_loader_code.specs.Machine.{with_words}
use Rattle.word_machine_frames.proofs.frames.Frames.put_words.Goals as goal

pub overflow_add-at : goal.overflow_add-at
overflow_add-at c =
    let all = room _ _ _ _ c.self.view_is c.self.invariant in
    omega arith

pub write_at-requires : goal.write_at-requires
write_at-requires c =
    let all = room _ _ _ _ c.self.view_is c.self.invariant in
    omega arith

pub overflow_add-self : goal.overflow_add-self
overflow_add-self c =
    let next = ap (λ (frame : Frame). frame.next) (top-view _ _ _ _ c.self.view_is) in
    omega arith

pub returns : goal.returns
returns c =
    let words = c.self.inside.words in
    let now = c.write_at.new.words in
    let same : length now ≡ words.len = omega arith in
    let copied : now ≡ with_words words.items (c.self.inside.top.start + c.args.to) c.args.words.now = rw c.deref_mut.ensures.value at c.write_at.ensures in
    written-stack_of _ _ _ _ _ _ _ c.self.view_is (start_within _ _ _ c.self.invariant) (with_items_is words now same ∙ copied)

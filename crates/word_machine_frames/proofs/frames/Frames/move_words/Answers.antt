use Rattle.std.proofs.Common.{◌≡◌, ◌+◌, ◌∙◌, length, ap, refl, arith}
use Rattle.std.proofs.lemmas.List.{with_items_is}
use Rattle.word_loader_code.specs.Machine.{Frame}
use Rattle.word_machine_frames.proofs.Stacks.{room, top-view, start_within, locals-view, written-stack_of}
use Rattle.word_loader_code.specs.Machine.{words_at, with_words}
use Rattle.word_machine_frames.specs.Stacks.{locals_of}
use Rattle.word_machine_frames.proofs.Parts.{words_at-drop}
use Rattle.word_machine_frames.proofs.frames.Frames.move_words.Goals as goal

pub overflow_add-start : goal.overflow_add-start
overflow_add-start c =
    let all = room _ _ _ _ c.self.view_is c.self.invariant in
    omega arith

pub overflow_add-start-2 : goal.overflow_add-start-2
overflow_add-start-2 c =
    let all = room _ _ _ _ c.self.view_is c.self.invariant in
    omega arith

pub copy_within-requires-clause-read : goal.copy_within-requires-clause-read
copy_within-requires-clause-read c =
    let all = room _ _ _ _ c.self.view_is c.self.invariant in
    omega arith

pub copy_within-requires-clause-written : goal.copy_within-requires-clause-written
copy_within-requires-clause-written c =
    let all = room _ _ _ _ c.self.view_is c.self.invariant in
    omega arith

pub overflow_add-self : goal.overflow_add-self
overflow_add-self c =
    let next = ap (λ (frame : Frame). frame.next) (top-view _ _ _ _ c.self.view_is) in
    omega arith

pub returns : goal.returns
returns c =
    let words = c.self.inside.words in
    let start = c.self.inside.top.start in
    let now = c.copy_within.new.words in
    let same : length now ≡ words.len = omega arith in
    let read : words_at words.items (start + c.args.from) c.args.count ≡ words_at (locals_of c.args.self.now) c.args.from c.args.count =
    rw (locals-view _ _ _ _ c.self.view_is, words_at-drop) refl in
    let copied : now ≡ with_words words.items (start + c.args.to) (words_at words.items (start + c.args.from) c.args.count) =
    rw c.deref_mut.ensures.value at c.copy_within.ensures in
    written-stack_of _ _ _ _ _ _ _ c.self.view_is (start_within _ _ _ c.self.invariant)
    (with_items_is words now same ∙ (copied ∙ ap (with_words words.items (start + c.args.to)) read))

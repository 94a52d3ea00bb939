use Rattle.std.proofs.Common.{◌≡◌, ◌+◌, length, ap, refl, arith}
use Rattle.word_loader_code.specs.Machine.{Frame}
use Rattle.word_loader_code.specs.Machine.{words_at}
use Rattle.word_machine_frames.specs.Stacks.{locals_of}
use Rattle.word_machine_frames.proofs.Stacks.{room, top-view, locals-view, reverse_pushed}
use Rattle.word_machine_frames.proofs.Parts.{words_at-drop}
use Rattle.word_machine_frames.proofs.Calls.{called-stack_of, called_in_order}
use Rattle.word_machine_frames.proofs.frames.Frames.call.Goals as goal

pub overflow_add-self-inside : goal.overflow_add-self-inside
overflow_add-self-inside c =
    let all = room _ _ _ _ c.self.view_is c.self.invariant in
    omega arith

pub append_frame-requires-clause-read : goal.append_frame-requires-clause-read
append_frame-requires-clause-read c =
    let all = room _ _ _ _ c.self.view_is c.self.invariant in
    omega arith

pub overflow_add-caller : goal.overflow_add-caller
overflow_add-caller c =
    let next = ap (λ (frame : Frame). frame.next) (top-view _ _ _ _ c.self.view_is) in
    omega arith

pub invariant_of-self-2 : goal.invariant_of-self-2
invariant_of-self-2 c =
    let end : c.len-end.result ≡ length c.self.inside.words.items = omega arith in
    let nearest = reverse_pushed _ _ _ (rw c.if-is_err.ensures.negation at c.push.ensures.items) in
    let caller = record c.self.inside.top { next = c.self.inside.top.next + 1 } in
    rw (nearest, end) (called_in_order _ _ _ c.self.inside.top caller _ c.self.invariant c.in_ok-append_frame.ensures.appended refl)

pub returns-clause-called : goal.returns-clause-called
returns-clause-called c =
    let end : c.len-end.result ≡ length c.self.inside.words.items = omega arith in
    let nearest = reverse_pushed _ _ _ (rw c.if-is_err.ensures.negation at c.push.ensures.items) in
    let read : words_at c.self.inside.words.items (c.self.inside.top.start + c.args.from) c.args.function.now.params ≡ words_at
    (locals_of c.args.self.now) c.args.from c.args.function.now.params =
    rw (locals-view _ _ _ _ c.self.view_is, words_at-drop) refl in
    rw (nearest, end) (called-stack_of _ _ _ _ _ _ _ _ c.self.view_is (rw read at c.in_ok-append_frame.ensures.appended))

use Rattle.std.proofs.Common.{◌≡◌, ◌+◌, ◌-◌, ◌++◌, List, ℕ, take, replicate, ◌∙◌, ap, refl, arith}
use Rattle.word_loader_code.specs.Machine.{words_at}
use Rattle.word_machine_frames.specs.Stacks.{locals_of}
use Rattle.word_machine_frames.proofs.Stacks.{room, start_within, locals-view}
use Rattle.word_machine_frames.proofs.Parts.{words_at-drop}
use Rattle.word_machine_frames.proofs.Calls.{replaced-stack_of, replaced_in_order}
use Rattle.word_machine_frames.proofs.frames.Frames.tail.Goals as goal

pub overflow_add-start : goal.overflow_add-start
overflow_add-start c =
    let all = room _ _ _ _ c.self.view_is c.self.invariant in
    omega arith

pub replace_frame-requires-clause-read : goal.replace_frame-requires-clause-read
replace_frame-requires-clause-read c =
    let all = room _ _ _ _ c.self.view_is c.self.invariant in
    omega arith

pub invariant_of-self-2 : goal.invariant_of-self-2
invariant_of-self-2 c = replaced_in_order _ _ _ _ _ c.self.invariant c.in_ok-replace_frame.ensures.replaced

pub returns-clause-replaced : goal.returns-clause-replaced
returns-clause-replaced c =
    let words = c.self.inside.words.items in
    let start = c.self.inside.top.start in
    let f = c.args.function.now in
    let read : words_at words (start + c.args.from) f.params ≡ words_at (locals_of c.args.self.now) c.args.from f.params =
    rw (locals-view _ _ _ _ c.self.view_is, words_at-drop) refl in
    replaced-stack_of _ _ _ _ _ _ _ _ c.self.view_is (start_within _ _ _ c.self.invariant)
    (c.in_ok-replace_frame.ensures.replaced ∙ ap (λ (l : List ℕ). take start words ++ (l ++ replicate (f.locals - f.params) 0)) read)

use Rattle.std.proofs.Common.{ℕ, List, ◌≡◌, ◌+◌, ◌++◌, take, length, ◌∙◌, ap, refl, arith}
use Rattle.std.proofs.lemmas.List.{with_items_is}
use Rattle.word_loader_code.specs.Machine.{words_at}
use Rattle.word_machine_frames.specs.Stacks.{locals_of}
use Rattle.word_machine_frames.proofs.Stacks.{room, start_within, locals-view}
use Rattle.word_machine_frames.proofs.Parts.{take-with_words_end, words_at-drop}
use Rattle.theory_machine.proofs.Words.{length-words_at}
use Rattle.word_machine_frames.proofs.Calls.{kept-stack_of, replaced_in_order}
use Rattle.word_machine_frames.proofs.frames.Frames.keep.Goals as goal

pub overflow_add-start : goal.overflow_add-start
overflow_add-start c =
    let all = room _ _ _ _ c.self.view_is c.self.invariant in
    omega arith

pub copy_within-requires-clause-read : goal.copy_within-requires-clause-read
copy_within-requires-clause-read c =
    let all = room _ _ _ _ c.self.view_is c.self.invariant in
    omega arith

pub copy_within-requires-clause-written : goal.copy_within-requires-clause-written
copy_within-requires-clause-written c =
    let all = room _ _ _ _ c.self.view_is c.self.invariant in
    omega arith

pub overflow_add-start-2 : goal.overflow_add-start-2
overflow_add-start-2 c =
    let all = room _ _ _ _ c.self.view_is c.self.invariant in
    omega arith

-- what is left of all words
kept : (c : goal.After-truncate)
    → c.truncate.new.self.items
    ≡ take c.self.inside.top.start c.self.inside.words.items ++ words_at (locals_of c.args.self.now) c.args.from c.args.count
kept c =
    let words = c.self.inside.words in
    let start = c.self.inside.top.start in
    let now = c.copy_within.new.words in
    let all = room _ _ _ _ c.self.view_is c.self.invariant in
    let same : length now ≡ words.len = omega arith in
    let read : words_at words.items (start + c.args.from) c.args.count ≡ words_at (locals_of c.args.self.now) c.args.from c.args.count =
    rw (locals-view _ _ _ _ c.self.view_is, words_at-drop) refl in
    let long : length (words_at words.items (start + c.args.from) c.args.count) ≡ c.args.count =
    length-words_at words.items (start + c.args.from) c.args.count (omega arith) in
    c.truncate.ensures.items
    ∙ (ap (take (start + c.args.count)) (with_items_is words now same ∙ (rw c.deref_mut.ensures.value at c.copy_within.ensures))
    ∙ (take-with_words_end words.items start c.args.count (words_at words.items (start + c.args.from) c.args.count) long (start_within _ _ _ c.self.invariant)
    ∙ ap (λ (l : List ℕ). take start words.items ++ l) read))

pub invariant_of-self : goal.invariant_of-self
invariant_of-self c = replaced_in_order _ _ _ _ _ c.self.invariant (kept c)

pub returns : goal.returns
returns c = kept-stack_of _ _ _ _ _ _ c.self.view_is (start_within _ _ _ c.self.invariant) (kept c)

use Rattle.std.proofs.Common.{◌≡◌, ◌+◌, ◌≤◌, List, [], ◌∷◌, length, take, reverse, ◌∙◌, ap, refl, arith}
use Rattle.std.proofs.lemmas.List.{nil_from_length, with_items_is}
use Rattle.word_loader_code.specs.Machine.{words_at, with_words}
use Rattle.word_machine_frames.specs.declared.frames.Activation.{Activation}
use Rattle.word_machine_frames.specs.Stacks.{locals_of}
use Rattle.word_machine_frames.specs.Activations.{stack_of}
use Rattle.word_machine_frames.proofs.Stacks.{room, reverse_pushed, locals-view}
use Rattle.word_machine_frames.proofs.Parts.{words_at-drop, take-with_words_past}
use Rattle.theory_machine.proofs.Words.{length-words_at}
use Rattle.word_machine_frames.proofs.Calls.{room_below, popped-stack_of, not_popped-stack_of, order_below}
use Rattle.word_machine_frames.proofs.frames.Frames.pop.Goals as goal

pub overflow_add-start : goal.overflow_add-start
overflow_add-start c =
    let all = room _ _ _ _ c.self.view_is c.self.invariant in
    omega arith

pub returns-in_default : goal.returns-in_default
returns-in_default c =
    let words = c.self.inside.words.items in
    let a = c.self.inside.top in
    let counts = rw c.in_default.is at c.pop.ensures.cases in
    let was : c.self.inside.below.items ≡ [] = nil_from_length _ (omega arith) in
    let now : c.pop.new.self.items ≡ [] = nil_from_length _ (omega arith) in
    let is : stack_of words a [] ≡ c.args.self.now = rw was at c.self.view_is in
    not_popped-stack_of words _ a c.args.self.now _ is (ap (λ (l : List Activation). stack_of words a (reverse l)) now ∙ is)

-- the frames that are left, under the one that goes on
nearest : (c : goal.After-struct_known-1) → reverse c.self.inside.below.items ≡ c.in-Some.caller ∷ reverse c.pop.new.self.items
nearest c = reverse_pushed c.pop.new.self.items c.self.inside.below.items c.in-Some.caller (rw c.in-Some.is at c.pop.ensures.items)

before : (c : goal.After-struct_known-1) → c.in-Some.caller.start + c.self.inside.top.place + c.args.count ≤ c.self.inside.top.start
before c = room_below _ _ _ _ _ _ (rw (nearest c) at c.self.view_is) (rw (nearest c) at c.self.invariant) c.requires.fits

pub overflow_add-caller : goal.overflow_add-caller
overflow_add-caller c =
    let all = room _ _ _ _ c.self.view_is c.self.invariant in
    omega (arith, before c)

pub copy_within-requires-clause-read : goal.copy_within-requires-clause-read
copy_within-requires-clause-read c =
    let all = room _ _ _ _ c.self.view_is c.self.invariant in
    omega arith

pub copy_within-requires-clause-written : goal.copy_within-requires-clause-written
copy_within-requires-clause-written c =
    let all = room _ _ _ _ c.self.view_is c.self.invariant in
    omega (arith, before c)

-- what is left of all words
left : (c : goal.After-caller-2-1)
    → c.truncate.new.self.items
    ≡ with_words (take c.self.inside.top.start c.self.inside.words.items) (c.in-Some.caller.start + c.self.inside.top.place)
    (words_at (locals_of c.args.self.now) c.args.from c.args.count)
left c =
    let words = c.self.inside.words.items in
    let start = c.self.inside.top.start in
    let place = c.in-Some.caller.start + c.self.inside.top.place in
    let now = c.copy_within.new.words in
    let front = reverse_pushed c.pop.new.self.items c.self.inside.below.items c.in-Some.caller (rw c.in-Some.is at c.pop.ensures.items) in
    let room_there = room_below _ _ _ _ _ _ (rw front at c.self.view_is) (rw front at c.self.invariant) c.requires.fits in
    let all = room _ _ _ _ c.self.view_is c.self.invariant in
    let same : length now ≡ c.self.inside.words.len = omega arith in
    let read : words_at words (start + c.args.from) c.args.count ≡ words_at (locals_of c.args.self.now) c.args.from c.args.count =
    rw (locals-view _ _ _ _ c.self.view_is, words_at-drop) refl in
    let long : length (words_at words (start + c.args.from) c.args.count) ≡ c.args.count =
    length-words_at words (start + c.args.from) c.args.count (omega arith) in
    c.truncate.ensures.items
    ∙ (ap (take start) (with_items_is c.self.inside.words now same ∙ (rw c.deref_mut.ensures.value at c.copy_within.ensures))
    ∙ (take-with_words_past start words place (words_at words (start + c.args.from) c.args.count) (omega (arith, long)) (omega arith)
    ∙ ap (with_words (take start words) place) read))

pub invariant_of-self-2 : goal.invariant_of-self-2
invariant_of-self-2 c =
    let front = reverse_pushed c.pop.new.self.items c.self.inside.below.items c.in-Some.caller (rw c.in-Some.is at c.pop.ensures.items) in
    let all = room _ _ _ _ c.self.view_is c.self.invariant in
    order_below _ _ _ c.in-Some.caller _ (rw front at c.self.invariant) (omega arith)

pub returns : goal.returns
returns c =
    let front = reverse_pushed c.pop.new.self.items c.self.inside.below.items c.in-Some.caller (rw c.in-Some.is at c.pop.ensures.items) in
    popped-stack_of _ _ _ _ _ _ _ (rw front at c.self.view_is) (rw front at c.self.invariant) (left c)

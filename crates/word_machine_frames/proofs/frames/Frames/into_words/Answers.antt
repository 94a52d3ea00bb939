use Rattle.std.proofs.Common.{◌≡◌, ◌-◌, ◌∙◌, length, take, ap, sym, arith, zero-add}
use Rattle.std.proofs.lemmas.List.{with_items_is, take_rest}
use Rattle.word_loader_code.specs.Machine.{words_at, with_words}
use Rattle.theory_machine.proofs.Words.{length-words_at}
use Rattle.word_machine_frames.proofs.Parts.{take-with_words_end}
use Rattle.word_machine_frames.proofs.Stacks.{start_within, locals-view}
use Rattle.word_machine_frames.proofs.frames.Frames.into_words.Goals as goal

pub overflow_sub-count : goal.overflow_sub-count
overflow_sub-count c =
    let within = start_within _ _ _ c.self.invariant in
    omega arith

pub copy_within-requires-clause-read : goal.copy_within-requires-clause-read
copy_within-requires-clause-read c =
    let within = start_within _ _ _ c.self.invariant in
    omega arith

pub returns : goal.returns
returns c =
    let words = c.self.inside.words in
    let start = c.self.inside.top.start in
    let now = c.copy_within.new.words in
    let within = start_within _ _ _ c.self.invariant in
    let count = length words.items - start in
    let same : length now ≡ words.len = omega arith in
    let counted : c.len.result - start ≡ count = omega arith in
    let long : length (words_at words.items start count) ≡ count = length-words_at words.items start count (omega arith) in
    let copied : now ≡ with_words words.items 0 (words_at words.items start count) = rw (c.deref_mut.ensures.value, counted) at c.copy_within.ensures in
    let kept = rw zero-add at (take-with_words_end words.items 0 count (words_at words.items start count) long (omega arith)) in
    c.truncate.ensures.items
    ∙ (rw counted (ap (take count) (with_items_is words now same ∙ copied) ∙ kept)
    ∙ (take_rest words.items start ∙ sym (locals-view _ _ _ _ c.self.view_is)))

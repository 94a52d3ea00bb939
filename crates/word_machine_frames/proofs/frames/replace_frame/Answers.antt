use Rattle.std.proofs.Common.{◌≡◌, ◌+◌, ◌∙◌, length, ap, take, refl, arith}
use Rattle.std.proofs.lemmas.List.{with_items_is}
use Rattle.word_machine_frames.proofs.Parts.{replaced}
use Rattle.word_machine_frames.proofs.frames.replace_frame.Goals as goal

pub returns-clause-replaced : goal.returns-clause-replaced
returns-clause-replaced c =
    let f = c.args.function.now in
    let grown = c.grow_to.new.words in
    let now = c.copy_before_zeros.new.words in
    let same : length now ≡ grown.len = omega arith in
    c.truncate.ensures.items
    ∙ ap (take (c.args.start + f.locals)) (with_items_is grown now same)
    ∙ replaced c.args.words.now.items grown.items _ now c.args.start c.args.from f.params f.locals c.requires.order c.requires.params
    c.requires.read c.in_ok-grow_to.ensures.grown refl
    (rw c.deref_mut.ensures.value at c.copy_before_zeros.ensures)

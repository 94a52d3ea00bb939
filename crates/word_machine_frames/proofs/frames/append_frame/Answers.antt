use Rattle.std.proofs.Common.{◌≡◌, ◌∙◌, length, arith}
use Rattle.std.proofs.lemmas.List.{with_items_is}
use Rattle.word_machine_frames.proofs.Parts.{appended}
use Rattle.word_machine_frames.proofs.frames.append_frame.Goals as goal

pub returns-clause-appended : goal.returns-clause-appended
returns-clause-appended c =
    let grown = c.append_zeros.new.words in
    let now = c.copy_within.new.words in
    let same : length now ≡ grown.len = omega arith in
    let end : c.len-end.result ≡ length c.args.words.now.items = omega arith in
    with_items_is grown now same
    ∙ appended c.args.words.now.items now c.args.from c.args.function.now.params c.args.function.now.locals c.requires.read
    (rw (c.deref_mut.ensures.value, c.in_ok-append_zeros.ensures.appended, end) at c.copy_within.ensures)

use Rattle.std.proofs.Common.{length, sym, ap, ◌∙◌, arith, rules}
use Rattle.theory_values.specs.Values.{IsWord}
use Rattle.heap_model_text.proofs.CutLemmas.{from-length, nothing_left}
use Rattle.heap_model_text.proofs.FileLemmas.{all_from_words}
use Rattle.heap_model_text.proofs.WordLemmas.{one_more_word, no_space, no_word, all_words}
use Rattle.heap_model_text.proofs.line.block_of.Goals as goal

pub returns-then-mark-ne32 : goal.returns-then-mark-ne32
returns-then-mark-ne32 c =
    let s = rw c.in-Some.ensures.cases.0 at c.loop-mark.invariant in
    no_space c.args.tail.now c.in-Some.mark.now c.in-Some.after.now c.loop-mark.block.items s c.if-mark-ne32.true

pub returns-in_default-number_of : goal.returns-in_default-number_of
returns-in_default-number_of c =
    let s = rw c.in-Some.ensures.cases.0 at c.loop-mark.invariant in
    let n = c.in_default-number_of.ensures in
    no_word c.args.tail.now c.in-Some.mark.now c.in-Some.after.now c.loop-mark.block.items s (λ k h e. n k h (c.cut.ensures.before ∙ e))

pub loop-mark-smaller : goal.loop-mark-smaller
loop-mark-smaller c = omega (arith, ap length c.cut.ensures.from, from-length 32 c.in-Some.after.now, c.in-Some.ensures.cases.1)

pub loop-mark-preserved : goal.loop-mark-preserved
loop-mark-preserved c =
    let s = rw c.in-Some.ensures.cases.0 at c.loop-mark.invariant in
    let word : IsWord c.in-Some-number_of.word = search rules in
    let m =
    one_more_word c.args.tail.now c.in-Some.mark.now c.in-Some.after.now c.loop-mark.block.items s c.in-Some-number_of.word word
    (grind arith) (sym c.cut.ensures.before ∙ c.in-Some-number_of.ensures) in
    rw (c.cut.ensures.from, c.in_ok-push.ensures.items) m

pub returns : goal.returns
returns c =
    let s = c.loop-mark.invariant in (
      all_words c.args.tail.now c.loop-mark.rest.now c.loop-mark.block.items s (nothing_left c.loop-mark.rest.now (grind arith)),
      all_from_words c.loop-mark.block.items s.words,
    )

use Rattle.std.proofs.Common.{◌≡◌, ◌≤◌, get_or, Some, arith, ◌∙◌, sym, subst, List, ℕ}
use Rattle.std.specs.Result.{result_ok}
use Rattle.std.proofs.lemmas.Grind.{common_steps}
use Rattle.htt_top_words.proofs.StepLemmas.{no_count, read_count, count_read, some_steps}
use Rattle.htt_top_words.proofs.command.step_count.Goals as goal
use Rattle.htt_top_words.proofs.command.step_count.Goals.{then-is_empty-via-then-is_empty, then-is_empty-via-else-is_empty+then-digits-lt49}

pub returns-then-is_empty : goal.returns-then-is_empty
returns-then-is_empty c =
    no_count c.args.word.now (elim c.then-is_empty.branch [
      | then-is_empty-via-then-is_empty w ↦ grind (arith, common_steps)
      | then-is_empty-via-else-is_empty+then-digits-lt49 w ↦ grind (arith, common_steps)
    ])

pub returns-in_err-steps : goal.returns-in_err-steps
returns-in_err-steps c =
    rw c.from_residual.ensures (λ n p e.
    let x = read_count c.args.word.now c.parse.result c.parse.ensures.value.0 n p e in
    let y = c.ok.ensures.value in
    let z = c.in_err-steps.was in
    cc)

pub returns-then-steps-gt-MOST_STEPS : goal.returns-then-steps-gt-MOST_STEPS
returns-then-steps-gt-MOST_STEPS c = λ n p e.
    let x = read_count c.args.word.now c.parse.result c.parse.ensures.value.0 n p e in
    let y = c.ok.ensures.value in
    let z = c.in_ok-steps.was in
    let same : c.in_ok-steps.steps ≡ n = cc in
    omega (arith, p.most)

pub returns : goal.returns
returns c =
    let z : result_ok c.parse.result ≡ Some c.in_ok-steps.steps = sym c.ok.ensures.value ∙ c.in_ok-steps.was in
    let first : 49 ≤ get_or c.args.word.now 0 0 = subst (λ (w : List ℕ). 49 ≤ get_or w 0 0) c.as_bytes-digits.ensures.value c.if-digits-lt49.false in
    let written = count_read c.args.word.now c.parse.result c.in_ok-steps.steps c.parse.ensures.value.0 z first in
    (written, record { some = some_steps c.args.word.now c.in_ok-steps.steps written first; most = omega arith })

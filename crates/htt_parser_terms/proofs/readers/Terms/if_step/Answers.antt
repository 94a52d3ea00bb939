use Rattle.std.proofs.Common.{◌-◌, refl}
use Rattle.htt_parser_trees.specs.TreeLevels.{raw_step_if}
use Rattle.htt_parser_words.proofs.Steps.{stopped, after_err, reading}
use Rattle.htt_parser_terms.proofs.readers.Terms.if_step.Goals as goal

pub returns-in_err-mono-clause-gives : goal.returns-in_err-mono-clause-gives
unfolding reading
returns-in_err-mono-clause-gives g c = stopped _ _ _ _ _ c.from_residual.ensures.1 (after_err _ _ _ _ c.in_err-mono.ensures)

pub returns-in_err-test-clause-gives : goal.returns-in_err-test-clause-gives
unfolding reading
returns-in_err-test-clause-gives g c =
    stopped _ _ _ _ _ c.from_residual-in_err-test.ensures.1 (rw c.in_ok-mono.ensures (after_err _ _ _ _ c.in_err-test.ensures))

pub returns-in_err-at-clause-gives : goal.returns-in_err-at-clause-gives
unfolding reading
returns-in_err-at-clause-gives g c =
    stopped _ _ _ _ _ c.from_residual-in_err-at.ensures.1
    (rw (c.in_ok-mono.ensures, c.in_ok-test.ensures) (after_err _ _ _ _ c.in_err-at.ensures))

pub returns-in_err-yes-clause-gives : goal.returns-in_err-yes-clause-gives
unfolding reading
returns-in_err-yes-clause-gives g c =
    stopped _ _ _ _ _ c.from_residual-in_err-yes.ensures.1
    (rw (c.in_ok-mono.ensures, c.in_ok-test.ensures, c.in_ok-at.ensures) (after_err _ _ _ _ c.in_err-yes.ensures))

pub returns-in_err-at-2-clause-gives : goal.returns-in_err-at-2-clause-gives
unfolding reading
returns-in_err-at-2-clause-gives g c =
    stopped _ _ _ _ _ c.from_residual-in_err-at-2.ensures.1
    (rw (c.in_ok-mono.ensures, c.in_ok-test.ensures, c.in_ok-at.ensures, c.in_ok-yes.ensures) (after_err _ _ _ _ c.in_err-at-2.ensures))

pub returns-in_err-at-3-clause-gives : goal.returns-in_err-at-3-clause-gives
unfolding reading
returns-in_err-at-3-clause-gives g c =
    stopped _ _ _ _ _ c.from_residual-in_err-at-3.ensures.1
    (rw (c.in_ok-mono.ensures, c.in_ok-test.ensures, c.in_ok-at.ensures, c.in_ok-yes.ensures, c.in_ok-at-2.ensures)
    (after_err _ _ _ _ c.in_err-at-3.ensures))

pub returns-in_err-no-clause-gives : goal.returns-in_err-no-clause-gives
unfolding reading
returns-in_err-no-clause-gives g c =
    stopped _ _ _ _ _ c.from_residual-in_err-no.ensures.1
    (rw (c.in_ok-mono.ensures, c.in_ok-test.ensures, c.in_ok-at.ensures, c.in_ok-yes.ensures, c.in_ok-at-2.ensures, c.in_ok-at-3.ensures)
    (after_err _ _ _ _ c.in_err-no.ensures))

pub returns-in_err-at-4-clause-gives : goal.returns-in_err-at-4-clause-gives
unfolding reading
returns-in_err-at-4-clause-gives g c =
    stopped _ _ _ _ _ c.from_residual-in_err-at-4.ensures.1
    (rw (
      c.in_ok-mono.ensures,
      c.in_ok-test.ensures,
      c.in_ok-at.ensures,
      c.in_ok-yes.ensures,
      c.in_ok-at-2.ensures,
      c.in_ok-at-3.ensures,
      c.in_ok-no.ensures,
    ) (after_err _ _ _ _ c.in_err-at-4.ensures))

pub returns-clause-gives : goal.returns-clause-gives
unfolding reading
returns-clause-gives g c =
    rw (
      c.in_ok-mono.ensures,
      c.in_ok-test.ensures,
      c.in_ok-at.ensures,
      c.in_ok-yes.ensures,
      c.in_ok-at-2.ensures,
      c.in_ok-at-3.ensures,
      c.in_ok-no.ensures,
      c.in_ok-at-4.ensures,
      raw_step_if,
    ) refl

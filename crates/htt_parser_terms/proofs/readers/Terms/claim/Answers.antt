use Rattle.std.proofs.Common.{◌-◌, refl}
use Rattle.htt_parser_trees.specs.TreeLevels.{raw_step_claim}
use Rattle.htt_parser_words.proofs.Steps.{stopped, after_err, reading}
use Rattle.htt_parser_terms.proofs.readers.Terms.claim.Goals as goal

pub returns-in_err-at-clause-gives : goal.returns-in_err-at-clause-gives
unfolding reading
returns-in_err-at-clause-gives g c = stopped _ _ _ _ _ c.from_residual.ensures.1 (after_err _ _ _ _ c.in_err-at.ensures)

pub returns-in_err-formula-clause-gives : goal.returns-in_err-formula-clause-gives
unfolding reading
returns-in_err-formula-clause-gives g c =
    stopped _ _ _ _ _ c.from_residual-in_err-formula.ensures.1 (rw c.in_ok-at.ensures (after_err _ _ _ _ c.in_err-formula.ensures))

pub returns-in_err-at-2-clause-gives : goal.returns-in_err-at-2-clause-gives
unfolding reading
returns-in_err-at-2-clause-gives g c =
    stopped _ _ _ _ _ c.from_residual-in_err-at-2.ensures.1
    (rw (c.in_ok-at.ensures, c.in_ok-formula.ensures) (after_err _ _ _ _ c.in_err-at-2.ensures))

pub returns-clause-gives : goal.returns-clause-gives
unfolding reading
returns-clause-gives g c = rw (c.in_ok-at.ensures, c.in_ok-formula.ensures, c.in_ok-at-2.ensures, raw_step_claim) refl

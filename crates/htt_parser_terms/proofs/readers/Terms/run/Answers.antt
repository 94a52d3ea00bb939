use Rattle.std.proofs.Common.{◌-◌, refl}
use Rattle.htt_parser_trees.specs.TreeLevels.{raw_step_run}
use Rattle.htt_parser_words.proofs.Steps.{stopped, after_err, reading}
use Rattle.htt_parser_terms.proofs.readers.Terms.run.Goals as goal

pub returns-in_err-routine-clause-gives : goal.returns-in_err-routine-clause-gives
unfolding reading
returns-in_err-routine-clause-gives g c = stopped _ _ _ _ _ c.from_residual.ensures.1 (after_err _ _ _ _ c.in_err-routine.ensures)

pub returns-clause-gives : goal.returns-clause-gives
unfolding reading
returns-clause-gives g c = rw (c.in_ok-routine.ensures, raw_step_run) refl

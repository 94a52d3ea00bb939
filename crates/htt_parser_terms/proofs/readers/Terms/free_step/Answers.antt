use Rattle.std.proofs.Common.{◌-◌, refl}
use Rattle.htt_parser_trees.specs.TreeLevels.{raw_step_free}
use Rattle.htt_parser_words.proofs.Steps.{stopped, after_err, reading}
use Rattle.htt_parser_terms.proofs.readers.Terms.free_step.Goals as goal

pub returns-in_err-mono-clause-gives : goal.returns-in_err-mono-clause-gives
unfolding reading
returns-in_err-mono-clause-gives g c = stopped _ _ _ _ _ c.from_residual.ensures.1 (after_err _ _ _ _ c.in_err-mono.ensures)

pub returns-in_err-place-clause-gives : goal.returns-in_err-place-clause-gives
unfolding reading
returns-in_err-place-clause-gives g c =
    stopped _ _ _ _ _ c.from_residual-in_err-place.ensures.1 (rw c.in_ok-mono.ensures (after_err _ _ _ _ c.in_err-place.ensures))

pub returns-clause-gives : goal.returns-clause-gives
unfolding reading
returns-clause-gives g c = rw (c.in_ok-mono.ensures, c.in_ok-place.ensures, raw_step_free) refl

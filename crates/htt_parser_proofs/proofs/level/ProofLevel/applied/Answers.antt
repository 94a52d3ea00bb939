use Rattle.std.proofs.Common.{refl, ◌-◌}
use Rattle.htt_parser_trees.specs.ProofLevels.{raw_end_app}
use Rattle.theory_grammar.specs.Readers.{give, ◌>>=◌}
use Rattle.theory_grammar.specs.Reading.{app_more}
use Rattle.htt_parser_words.proofs.Steps.{stopped, after_err}
use Rattle.htt_parser_proofs.proofs.level.ProofLevel.applied.Goals as goal

pub returns-in_err-first : goal.returns-in_err-first
unfolding app_more ◌>>=◌ give
returns-in_err-first g c = stopped _ _ _ _ _ c.from_residual.ensures.1 (after_err _ _ _ _ c.in_err-first.ensures)

pub returns-in_err-rest : goal.returns-in_err-rest
unfolding app_more ◌>>=◌ give
returns-in_err-rest g c = stopped _ _ _ _ _ c.from_residual-in_err-rest.ensures.1 (rw (c.in_ok-first.ensures) (after_err _ _ _ _ c.in_err-rest.ensures))

pub returns-in_err-at : goal.returns-in_err-at
unfolding app_more ◌>>=◌ give
returns-in_err-at g c =
    stopped _ _ _ _ _ c.from_residual-in_err-at.ensures.1
    (rw (c.in_ok-first.ensures, c.in_ok-rest.ensures) (after_err _ _ _ _ c.in_err-at.ensures))

pub returns : goal.returns
unfolding app_more ◌>>=◌ give
returns g c = rw (c.in_ok-first.ensures, c.in_ok-rest.ensures, c.in_ok-at.ensures, c.of.ensures.same_items, raw_end_app) refl

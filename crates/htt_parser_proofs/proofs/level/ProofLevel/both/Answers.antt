use Rattle.std.proofs.Common.{refl, ◌-◌}
use Rattle.htt_parser_trees.specs.ProofLevels.{raw_end_both}
use Rattle.theory_grammar.specs.Readers.{give, ◌>>=◌}
use Rattle.htt_parser_words.proofs.Steps.{stopped, after_err}
use Rattle.htt_parser_proofs.proofs.level.ProofLevel.both.Goals as goal

pub returns-in_err-at : goal.returns-in_err-at
unfolding ◌>>=◌ give
returns-in_err-at g c = stopped _ _ _ _ _ c.from_residual.ensures.1 (after_err _ _ _ _ c.in_err-at.ensures)

pub returns-in_err-one : goal.returns-in_err-one
unfolding ◌>>=◌ give
returns-in_err-one g c = stopped _ _ _ _ _ c.from_residual-in_err-one.ensures.1 (rw (c.in_ok-at.ensures) (after_err _ _ _ _ c.in_err-one.ensures))

pub returns-in_err-at-2 : goal.returns-in_err-at-2
unfolding ◌>>=◌ give
returns-in_err-at-2 g c =
    stopped _ _ _ _ _ c.from_residual-in_err-at-2.ensures.1
    (rw (c.in_ok-at.ensures, c.in_ok-one.ensures) (after_err _ _ _ _ c.in_err-at-2.ensures))

pub returns-in_err-other : goal.returns-in_err-other
unfolding ◌>>=◌ give
returns-in_err-other g c =
    stopped _ _ _ _ _ c.from_residual-in_err-other.ensures.1
    (rw (c.in_ok-at.ensures, c.in_ok-one.ensures, c.in_ok-at-2.ensures) (after_err _ _ _ _ c.in_err-other.ensures))

pub returns-in_err-at-3 : goal.returns-in_err-at-3
unfolding ◌>>=◌ give
returns-in_err-at-3 g c =
    stopped _ _ _ _ _ c.from_residual-in_err-at-3.ensures.1
    (rw (c.in_ok-at.ensures, c.in_ok-one.ensures, c.in_ok-at-2.ensures, c.in_ok-other.ensures) (after_err _ _ _ _ c.in_err-at-3.ensures))

pub returns : goal.returns
unfolding ◌>>=◌ give
returns g c = rw (c.in_ok-at.ensures, c.in_ok-one.ensures, c.in_ok-at-2.ensures, c.in_ok-other.ensures, c.in_ok-at-3.ensures, raw_end_both) refl

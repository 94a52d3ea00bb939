use Rattle.std.proofs.Common.{◌-◌}
use Rattle.theory_grammar.specs.Readers.{give, ◌>>=◌}
use Rattle.htt_parser_words.proofs.Steps.{stopped, after_err}
use Rattle.htt_parser_proofs.proofs.level.ProofLevel.induct.Goals as goal

pub returns-in_err-at : goal.returns-in_err-at
unfolding ◌>>=◌ give
returns-in_err-at g c = stopped _ _ _ _ _ c.from_residual.ensures.1 (after_err _ _ _ _ c.in_err-at.ensures)

pub returns-in_err-motive : goal.returns-in_err-motive
unfolding ◌>>=◌ give
returns-in_err-motive g c = stopped _ _ _ _ _ c.from_residual-in_err-motive.ensures.1 (rw (c.in_ok-at.ensures) (after_err _ _ _ _ c.in_err-motive.ensures))

pub returns-in_err-at-2 : goal.returns-in_err-at-2
unfolding ◌>>=◌ give
returns-in_err-at-2 g c =
    stopped _ _ _ _ _ c.from_residual-in_err-at-2.ensures.1
    (rw (c.in_ok-at.ensures, c.in_ok-motive.ensures) (after_err _ _ _ _ c.in_err-at-2.ensures))

pub returns-in_err-term : goal.returns-in_err-term
unfolding ◌>>=◌ give
returns-in_err-term g c =
    stopped _ _ _ _ _ c.from_residual-in_err-term.ensures.1
    (rw (c.in_ok-at.ensures, c.in_ok-motive.ensures, c.in_ok-at-2.ensures) (after_err _ _ _ _ c.in_err-term.ensures))

pub returns-in_err-at-3 : goal.returns-in_err-at-3
unfolding ◌>>=◌ give
returns-in_err-at-3 g c =
    stopped _ _ _ _ _ c.from_residual-in_err-at-3.ensures.1
    (rw (c.in_ok-at.ensures, c.in_ok-motive.ensures, c.in_ok-at-2.ensures, c.in_ok-term.ensures) (after_err _ _ _ _ c.in_err-at-3.ensures))

pub returns-in_err-zero : goal.returns-in_err-zero
unfolding ◌>>=◌ give
returns-in_err-zero g c =
    stopped _ _ _ _ _ c.from_residual-in_err-zero.ensures.1
    (rw (c.in_ok-at.ensures, c.in_ok-motive.ensures, c.in_ok-at-2.ensures, c.in_ok-term.ensures, c.in_ok-at-3.ensures)
    (after_err _ _ _ _ c.in_err-zero.ensures))

pub returns-in_err-at-4 : goal.returns-in_err-at-4
unfolding ◌>>=◌ give
returns-in_err-at-4 g c =
    stopped _ _ _ _ _ c.from_residual-in_err-at-4.ensures.1
    (rw (c.in_ok-at.ensures, c.in_ok-motive.ensures, c.in_ok-at-2.ensures, c.in_ok-term.ensures, c.in_ok-at-3.ensures, c.in_ok-zero.ensures)
    (after_err _ _ _ _ c.in_err-at-4.ensures))

pub returns : goal.returns
unfolding ◌>>=◌ give
returns g c =
    rw (
      c.in_ok-at.ensures,
      c.in_ok-motive.ensures,
      c.in_ok-at-2.ensures,
      c.in_ok-term.ensures,
      c.in_ok-at-3.ensures,
      c.in_ok-zero.ensures,
      c.in_ok-at-4.ensures,
    ) c.induct_step.ensures

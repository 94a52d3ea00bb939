use Rattle.std.proofs.Common.{refl, ◌-◌}
use Rattle.htt_parser_trees.specs.ProofLevels.{raw_end_induct}
use Rattle.theory_grammar.specs.Readers.{give, ◌>>=◌}
use Rattle.htt_parser_words.proofs.Steps.{stopped, after_err}
use Rattle.htt_parser_proofs.proofs.level.ProofLevel.induct_step.Goals as goal

pub returns-in_err-name : goal.returns-in_err-name
unfolding ◌>>=◌ give
returns-in_err-name g c = stopped _ _ _ _ _ c.from_residual.ensures.1 (after_err _ _ _ _ c.in_err-name.ensures)

pub returns-in_err-below : goal.returns-in_err-below
unfolding ◌>>=◌ give
returns-in_err-below g c = stopped _ _ _ _ _ c.from_residual-in_err-below.ensures.1 (rw (c.in_ok-name.ensures) (after_err _ _ _ _ c.in_err-below.ensures))

pub returns-in_err-hypothesis : goal.returns-in_err-hypothesis
unfolding ◌>>=◌ give
returns-in_err-hypothesis g c =
    stopped _ _ _ _ _ c.from_residual-in_err-hypothesis.ensures.1
    (rw (c.in_ok-name.ensures, c.in_ok-below.ensures) (after_err _ _ _ _ c.in_err-hypothesis.ensures))

pub returns-in_err-at : goal.returns-in_err-at
unfolding ◌>>=◌ give
returns-in_err-at g c =
    stopped _ _ _ _ _ c.from_residual-in_err-at.ensures.1
    (rw (c.in_ok-name.ensures, c.in_ok-below.ensures, c.in_ok-hypothesis.ensures) (after_err _ _ _ _ c.in_err-at.ensures))

pub returns-in_err-next : goal.returns-in_err-next
unfolding ◌>>=◌ give
returns-in_err-next g c =
    stopped _ _ _ _ _ c.from_residual-in_err-next.ensures.1
    (rw (c.in_ok-name.ensures, c.in_ok-below.ensures, c.in_ok-hypothesis.ensures, c.in_ok-at.ensures)
    (after_err _ _ _ _ c.in_err-next.ensures))

pub returns-in_err-at-2 : goal.returns-in_err-at-2
unfolding ◌>>=◌ give
returns-in_err-at-2 g c =
    stopped _ _ _ _ _ c.from_residual-in_err-at-2.ensures.1
    (rw (c.in_ok-name.ensures, c.in_ok-below.ensures, c.in_ok-hypothesis.ensures, c.in_ok-at.ensures, c.in_ok-next.ensures)
    (after_err _ _ _ _ c.in_err-at-2.ensures))

pub returns : goal.returns
unfolding ◌>>=◌ give
returns g c =
    rw (
      c.in_ok-name.ensures,
      c.in_ok-below.ensures,
      c.in_ok-hypothesis.ensures,
      c.in_ok-at.ensures,
      c.in_ok-next.ensures,
      c.in_ok-at-2.ensures,
      raw_end_induct,
    ) refl

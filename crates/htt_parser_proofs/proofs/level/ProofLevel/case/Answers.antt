use Rattle.std.proofs.Common.{refl, ◌-◌}
use Rattle.htt_parser_trees.specs.ProofLevels.{raw_end_case}
use Rattle.theory_grammar.specs.Readers.{give, ◌>>=◌}
use Rattle.htt_parser_words.proofs.Steps.{stopped, after_err}
use Rattle.htt_parser_proofs.proofs.level.ProofLevel.case.Goals as goal

pub returns-in_err-at : goal.returns-in_err-at
unfolding ◌>>=◌ give
returns-in_err-at g c = stopped _ _ _ _ _ c.from_residual.ensures.1 (after_err _ _ _ _ c.in_err-at.ensures)

pub returns-in_err-proof : goal.returns-in_err-proof
unfolding ◌>>=◌ give
returns-in_err-proof g c = stopped _ _ _ _ _ c.from_residual-in_err-proof.ensures.1 (rw (c.in_ok-at.ensures) (after_err _ _ _ _ c.in_err-proof.ensures))

pub returns-in_err-at-2 : goal.returns-in_err-at-2
unfolding ◌>>=◌ give
returns-in_err-at-2 g c =
    stopped _ _ _ _ _ c.from_residual-in_err-at-2.ensures.1
    (rw (c.in_ok-at.ensures, c.in_ok-proof.ensures) (after_err _ _ _ _ c.in_err-at-2.ensures))

pub returns-in_err-left_name : goal.returns-in_err-left_name
unfolding ◌>>=◌ give
returns-in_err-left_name g c =
    stopped _ _ _ _ _ c.from_residual-in_err-left_name.ensures.1
    (rw (c.in_ok-at.ensures, c.in_ok-proof.ensures, c.in_ok-at-2.ensures) (after_err _ _ _ _ c.in_err-left_name.ensures))

pub returns-in_err-at-3 : goal.returns-in_err-at-3
unfolding ◌>>=◌ give
returns-in_err-at-3 g c =
    stopped _ _ _ _ _ c.from_residual-in_err-at-3.ensures.1
    (rw (c.in_ok-at.ensures, c.in_ok-proof.ensures, c.in_ok-at-2.ensures, c.in_ok-left_name.ensures)
    (after_err _ _ _ _ c.in_err-at-3.ensures))

pub returns-in_err-one : goal.returns-in_err-one
unfolding ◌>>=◌ give
returns-in_err-one g c =
    stopped _ _ _ _ _ c.from_residual-in_err-one.ensures.1
    (rw (c.in_ok-at.ensures, c.in_ok-proof.ensures, c.in_ok-at-2.ensures, c.in_ok-left_name.ensures, c.in_ok-at-3.ensures)
    (after_err _ _ _ _ c.in_err-one.ensures))

pub returns-in_err-at-4 : goal.returns-in_err-at-4
unfolding ◌>>=◌ give
returns-in_err-at-4 g c =
    stopped _ _ _ _ _ c.from_residual-in_err-at-4.ensures.1
    (rw
    (c.in_ok-at.ensures, c.in_ok-proof.ensures, c.in_ok-at-2.ensures, c.in_ok-left_name.ensures, c.in_ok-at-3.ensures, c.in_ok-one.ensures)
    (after_err _ _ _ _ c.in_err-at-4.ensures))

pub returns-in_err-right_name : goal.returns-in_err-right_name
unfolding ◌>>=◌ give
returns-in_err-right_name g c =
    stopped _ _ _ _ _ c.from_residual-in_err-right_name.ensures.1
    (rw (
      c.in_ok-at.ensures,
      c.in_ok-proof.ensures,
      c.in_ok-at-2.ensures,
      c.in_ok-left_name.ensures,
      c.in_ok-at-3.ensures,
      c.in_ok-one.ensures,
      c.in_ok-at-4.ensures,
    ) (after_err _ _ _ _ c.in_err-right_name.ensures))

pub returns-in_err-at-5 : goal.returns-in_err-at-5
unfolding ◌>>=◌ give
returns-in_err-at-5 g c =
    stopped _ _ _ _ _ c.from_residual-in_err-at-5.ensures.1
    (rw (
      c.in_ok-at.ensures,
      c.in_ok-proof.ensures,
      c.in_ok-at-2.ensures,
      c.in_ok-left_name.ensures,
      c.in_ok-at-3.ensures,
      c.in_ok-one.ensures,
      c.in_ok-at-4.ensures,
      c.in_ok-right_name.ensures,
    ) (after_err _ _ _ _ c.in_err-at-5.ensures))

pub returns-in_err-other : goal.returns-in_err-other
unfolding ◌>>=◌ give
returns-in_err-other g c =
    stopped _ _ _ _ _ c.from_residual-in_err-other.ensures.1
    (rw (
      c.in_ok-at.ensures,
      c.in_ok-proof.ensures,
      c.in_ok-at-2.ensures,
      c.in_ok-left_name.ensures,
      c.in_ok-at-3.ensures,
      c.in_ok-one.ensures,
      c.in_ok-at-4.ensures,
      c.in_ok-right_name.ensures,
      c.in_ok-at-5.ensures,
    ) (after_err _ _ _ _ c.in_err-other.ensures))

pub returns-in_err-at-6 : goal.returns-in_err-at-6
unfolding ◌>>=◌ give
returns-in_err-at-6 g c =
    stopped _ _ _ _ _ c.from_residual-in_err-at-6.ensures.1
    (rw (
      c.in_ok-at.ensures,
      c.in_ok-proof.ensures,
      c.in_ok-at-2.ensures,
      c.in_ok-left_name.ensures,
      c.in_ok-at-3.ensures,
      c.in_ok-one.ensures,
      c.in_ok-at-4.ensures,
      c.in_ok-right_name.ensures,
      c.in_ok-at-5.ensures,
      c.in_ok-other.ensures,
    ) (after_err _ _ _ _ c.in_err-at-6.ensures))

pub returns : goal.returns
unfolding ◌>>=◌ give
returns g c =
    rw (
      c.in_ok-at.ensures,
      c.in_ok-proof.ensures,
      c.in_ok-at-2.ensures,
      c.in_ok-left_name.ensures,
      c.in_ok-at-3.ensures,
      c.in_ok-one.ensures,
      c.in_ok-at-4.ensures,
      c.in_ok-right_name.ensures,
      c.in_ok-at-5.ensures,
      c.in_ok-other.ensures,
      c.in_ok-at-6.ensures,
      raw_end_case,
    ) refl

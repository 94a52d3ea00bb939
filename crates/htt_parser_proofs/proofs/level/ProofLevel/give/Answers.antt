use Rattle.std.proofs.Common.{refl, ◌-◌}
use Rattle.htt_parser_trees.specs.ProofLevels.{raw_end_give}
use Rattle.theory_grammar.specs.Readers.{give, ◌>>=◌}
use Rattle.htt_parser_words.proofs.Steps.{stopped, after_err}
use Rattle.htt_parser_proofs.proofs.level.ProofLevel.give.Goals as goal

pub returns-in_err-at : goal.returns-in_err-at
unfolding ◌>>=◌ give
returns-in_err-at g c = stopped _ _ _ _ _ c.from_residual.ensures.1 (after_err _ _ _ _ c.in_err-at.ensures)

pub returns-in_err-argument : goal.returns-in_err-argument
unfolding ◌>>=◌ give
returns-in_err-argument g c =
    stopped _ _ _ _ _ c.from_residual-in_err-argument.ensures.1 (rw (c.in_ok-at.ensures) (after_err _ _ _ _ c.in_err-argument.ensures))

pub returns-in_err-at-2 : goal.returns-in_err-at-2
unfolding ◌>>=◌ give
returns-in_err-at-2 g c =
    stopped _ _ _ _ _ c.from_residual-in_err-at-2.ensures.1
    (rw (c.in_ok-at.ensures, c.in_ok-argument.ensures) (after_err _ _ _ _ c.in_err-at-2.ensures))

pub returns-in_err-proof : goal.returns-in_err-proof
unfolding ◌>>=◌ give
returns-in_err-proof g c =
    stopped _ _ _ _ _ c.from_residual-in_err-proof.ensures.1
    (rw (c.in_ok-at.ensures, c.in_ok-argument.ensures, c.in_ok-at-2.ensures) (after_err _ _ _ _ c.in_err-proof.ensures))

pub returns-in_err-at-3 : goal.returns-in_err-at-3
unfolding ◌>>=◌ give
returns-in_err-at-3 g c =
    stopped _ _ _ _ _ c.from_residual-in_err-at-3.ensures.1
    (rw (c.in_ok-at.ensures, c.in_ok-argument.ensures, c.in_ok-at-2.ensures, c.in_ok-proof.ensures)
    (after_err _ _ _ _ c.in_err-at-3.ensures))

pub returns : goal.returns
unfolding ◌>>=◌ give
returns g c = rw (c.in_ok-at.ensures, c.in_ok-argument.ensures, c.in_ok-at-2.ensures, c.in_ok-proof.ensures, c.in_ok-at-3.ensures, raw_end_give) refl

use Rattle.std.proofs.Common.{◌-◌}
use Rattle.theory_grammar.specs.Readers.{give, ◌>>=◌}
use Rattle.theory_grammar.specs.Reading.{deeper}
use Rattle.htt_parser_words.proofs.Steps.{stopped, after_err}
use Rattle.htt_parser_proofs.proofs.Further.{further_is}
use Rattle.htt_parser_proofs.proofs.level.ProofLevel.app.Goals as goal

pub returns-in_err-at : goal.returns-in_err-at
unfolding ◌>>=◌ give
returns-in_err-at g c = stopped _ _ _ _ _ c.from_residual.ensures.1 (after_err _ _ _ _ c.in_err-at.ensures)

pub returns-in_err-head : goal.returns-in_err-head
unfolding ◌>>=◌ give
returns-in_err-head g c = stopped _ _ _ _ _ c.from_residual-in_err-head.ensures.1 (rw (c.in_ok-at.ensures) (after_err _ _ _ _ c.in_err-head.ensures))

pub returns-in_err-at-2 : goal.returns-in_err-at-2
unfolding ◌>>=◌ give
returns-in_err-at-2 g c =
    stopped _ _ _ _ _ c.from_residual-in_err-at-2.ensures.1
    (rw (c.in_ok-at.ensures, c.in_ok-head.ensures) (after_err _ _ _ _ c.in_err-at-2.ensures))

pub returns : goal.returns
unfolding ◌>>=◌ give deeper
returns g c = rw (c.in_ok-at.ensures, c.in_ok-head.ensures, c.in_ok-at-2.ensures, further_is) c.applied.ensures

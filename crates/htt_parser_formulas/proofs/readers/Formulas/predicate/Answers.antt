use Rattle.htt_parser_words.proofs.Steps.{stopped, after_err, reading}
use Rattle.htt_parser_formulas.proofs.readers.Formulas.predicate.Goals as goal

pub returns-in_err-name : goal.returns-in_err-name
unfolding reading
returns-in_err-name g c = stopped _ _ _ _ _ c.from_residual.ensures.1 (after_err _ _ _ _ c.in_err-name.ensures)

pub returns : goal.returns
unfolding reading
returns g c = rw c.in_ok-name.ensures c.used.ensures

use Rattle.htt_parser_words.proofs.Steps.{stopped, after_err, reading}
use Rattle.htt_parser_formulas.proofs.readers.Formulas.relation.Goals as goal

pub returns-in_err-rel : goal.returns-in_err-rel
unfolding reading
returns-in_err-rel g c = stopped _ _ _ _ _ c.from_residual.ensures.1 (after_err _ _ _ _ c.in_err-rel.ensures)

pub returns : goal.returns
unfolding reading
returns g c = rw c.in_ok-rel.ensures c.related.ensures

use Rattle.theory_grammar_table.proofs.OfTable.{formula_of_table}
use Rattle.htt_parser_recogniser.proofs.Retelling.{retold}
use Rattle.htt_parser_recogniser.proofs.phrases.is_formula.Goals as goal

pub returns : goal.returns
returns c = retold c.derives.result _ _ (formula_of_table c.args.tokens.now) c.derives.ensures

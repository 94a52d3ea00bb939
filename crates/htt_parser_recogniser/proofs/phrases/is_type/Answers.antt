use Rattle.theory_grammar_table.proofs.OfTable.{type_of_table}
use Rattle.htt_parser_recogniser.proofs.Retelling.{retold}
use Rattle.htt_parser_recogniser.proofs.phrases.is_type.Goals as goal

pub returns : goal.returns
returns c = retold c.derives.result _ _ (type_of_table c.args.tokens.now) c.derives.ensures

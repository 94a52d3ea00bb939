use Rattle.theory_grammar_table.proofs.OfTable.{proof_of_table}
use Rattle.htt_parser_recogniser.proofs.Retelling.{retold}
use Rattle.htt_parser_recogniser.proofs.phrases.is_proof.Goals as goal

pub returns : goal.returns
returns c = retold c.derives.result _ _ (proof_of_table c.args.tokens.now) c.derives.ensures

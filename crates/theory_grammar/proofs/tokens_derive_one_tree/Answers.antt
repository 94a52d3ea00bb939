use Rattle.theory_grammar.proofs.One.{one_mono, one_type, one_term, one_formula, one_proof, one_file}
use Rattle.theory_grammar.proofs.tokens_derive_one_tree.Goals as goal

pub returns-clause-monotypes : goal.returns-clause-monotypes
returns-clause-monotypes c = one_mono

pub returns-clause-types : goal.returns-clause-types
returns-clause-types c = one_type

pub returns-clause-terms : goal.returns-clause-terms
returns-clause-terms c = one_term

pub returns-clause-formulas : goal.returns-clause-formulas
returns-clause-formulas c = one_formula

pub returns-clause-proofs : goal.returns-clause-proofs
returns-clause-proofs c = one_proof

pub returns-clause-files : goal.returns-clause-files
returns-clause-files c = one_file

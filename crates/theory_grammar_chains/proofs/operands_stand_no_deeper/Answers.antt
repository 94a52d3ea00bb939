use Rattle.theory_grammar_chains.proofs.Laws.{in_monotypes, in_formulas, in_proofs, in_files}
use Rattle.theory_grammar_chains.proofs.operands_stand_no_deeper.Goals as goal

pub returns-clause-monotypes : goal.returns-clause-monotypes
returns-clause-monotypes c = in_monotypes

pub returns-clause-formulas : goal.returns-clause-formulas
returns-clause-formulas c = in_formulas

pub returns-clause-proofs : goal.returns-clause-proofs
returns-clause-proofs c = in_proofs

pub returns-clause-files : goal.returns-clause-files
returns-clause-files c = in_files

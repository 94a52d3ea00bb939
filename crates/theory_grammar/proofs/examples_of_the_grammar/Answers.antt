use Rattle.theory_grammar.proofs.Examples.{monotypes, terms, formulas, proofs, files}
use Rattle.theory_grammar.proofs.examples_of_the_grammar.Goals as goal

pub returns-clause-monotypes : goal.returns-clause-monotypes
returns-clause-monotypes c = monotypes

pub returns-clause-terms : goal.returns-clause-terms
returns-clause-terms c = terms

pub returns-clause-formulas : goal.returns-clause-formulas
returns-clause-formulas c = formulas

pub returns-clause-proofs : goal.returns-clause-proofs
returns-clause-proofs c = proofs

pub returns-clause-files : goal.returns-clause-files
returns-clause-files c = files

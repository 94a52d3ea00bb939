use Rattle.theory_grammar_table.proofs.OfTable.{mono_of_table, type_of_table, term_of_table, formula_of_table, proof_of_table, file_of_table}
use Rattle.theory_grammar_table.proofs.table_derives_the_trees.Goals as goal

pub returns-clause-monotypes : goal.returns-clause-monotypes
returns-clause-monotypes c = mono_of_table

pub returns-clause-types : goal.returns-clause-types
returns-clause-types c = type_of_table

pub returns-clause-terms : goal.returns-clause-terms
returns-clause-terms c = term_of_table

pub returns-clause-formulas : goal.returns-clause-formulas
returns-clause-formulas c = formula_of_table

pub returns-clause-proofs : goal.returns-clause-proofs
returns-clause-proofs c = proof_of_table

pub returns-clause-files : goal.returns-clause-files
returns-clause-files c = file_of_table

use Rattle.theory_reading.proofs.Laws.{mono_is_read, formula_is_read, proof_is_read, file_is_read}
use Rattle.theory_reading.proofs.what_is_derived_is_read.Goals as goal

pub returns-clause-formulas : goal.returns-clause-formulas
returns-clause-formulas c = formula_is_read

pub returns-clause-proofs : goal.returns-clause-proofs
returns-clause-proofs c = proof_is_read

pub returns-clause-files : goal.returns-clause-files
returns-clause-files c = file_is_read

pub returns-clause-monotypes : goal.returns-clause-monotypes
returns-clause-monotypes c = mono_is_read

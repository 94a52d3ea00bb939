use Rattle.theory_reading.proofs.Laws.{mono_is_derived, formula_is_derived, proof_is_derived, file_is_derived}
use Rattle.theory_reading.proofs.what_is_read_is_derived.Goals as goal

pub returns-clause-formulas : goal.returns-clause-formulas
returns-clause-formulas c = formula_is_derived

pub returns-clause-proofs : goal.returns-clause-proofs
returns-clause-proofs c = proof_is_derived

pub returns-clause-files : goal.returns-clause-files
returns-clause-files c = file_is_derived

pub returns-clause-monotypes : goal.returns-clause-monotypes
returns-clause-monotypes c = mono_is_derived

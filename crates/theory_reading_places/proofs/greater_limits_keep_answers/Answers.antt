use Rattle.theory_reading_places.proofs.Laws.{mono_keeps, formula_keeps, proof_keeps, file_keeps}
use Rattle.theory_reading_places.proofs.greater_limits_keep_answers.Goals as goal

pub returns-clause-monotypes : goal.returns-clause-monotypes
returns-clause-monotypes c = mono_keeps

pub returns-clause-formulas : goal.returns-clause-formulas
returns-clause-formulas c = formula_keeps

pub returns-clause-proofs : goal.returns-clause-proofs
returns-clause-proofs c = proof_keeps

pub returns-clause-files : goal.returns-clause-files
returns-clause-files c = file_keeps

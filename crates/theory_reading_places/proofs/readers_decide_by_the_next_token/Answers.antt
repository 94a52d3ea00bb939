use Rattle.theory_reading_places.proofs.Laws.{mono_decides, formula_decides, proof_decides, file_decides}
use Rattle.theory_reading_places.proofs.readers_decide_by_the_next_token.Goals as goal

pub returns-clause-monotypes : goal.returns-clause-monotypes
returns-clause-monotypes c = mono_decides

pub returns-clause-formulas : goal.returns-clause-formulas
returns-clause-formulas c = formula_decides

pub returns-clause-proofs : goal.returns-clause-proofs
returns-clause-proofs c = proof_decides

pub returns-clause-files : goal.returns-clause-files
returns-clause-files c = file_decides

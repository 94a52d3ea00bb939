use Rattle.theory_refusals.proofs.One.{mono_has_one_place, formula_has_one_place, proof_has_one_place, file_has_one_place}
use Rattle.theory_refusals.proofs.refusals_have_one_place.Goals as goal

pub returns-clause-monotypes : goal.returns-clause-monotypes
returns-clause-monotypes c = mono_has_one_place

pub returns-clause-formulas : goal.returns-clause-formulas
returns-clause-formulas c = formula_has_one_place

pub returns-clause-proofs : goal.returns-clause-proofs
returns-clause-proofs c = proof_has_one_place

pub returns-clause-files : goal.returns-clause-files
returns-clause-files c = file_has_one_place

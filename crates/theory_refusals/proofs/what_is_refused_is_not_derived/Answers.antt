use Rattle.theory_refusals.proofs.One.{mono_is_not_derived, formula_is_not_derived, proof_is_not_derived, file_is_not_derived}
use Rattle.theory_refusals.proofs.what_is_refused_is_not_derived.Goals as goal

pub returns-clause-monotypes : goal.returns-clause-monotypes
returns-clause-monotypes c = mono_is_not_derived

pub returns-clause-formulas : goal.returns-clause-formulas
returns-clause-formulas c = formula_is_not_derived

pub returns-clause-proofs : goal.returns-clause-proofs
returns-clause-proofs c = proof_is_not_derived

pub returns-clause-files : goal.returns-clause-files
returns-clause-files c = file_is_not_derived

use Rattle.theory_refusals.proofs.Phrases.{mono_is_ended, formula_is_ended, proof_is_ended}
use Rattle.theory_refusals.proofs.what_is_left_goes_on_with_nothing.Goals as goal

pub returns-clause-monotypes : goal.returns-clause-monotypes
returns-clause-monotypes c = mono_is_ended

pub returns-clause-formulas : goal.returns-clause-formulas
returns-clause-formulas c = formula_is_ended

pub returns-clause-proofs : goal.returns-clause-proofs
returns-clause-proofs c = proof_is_ended

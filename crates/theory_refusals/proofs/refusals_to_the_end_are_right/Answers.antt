use Rattle.theory_refusals.proofs.Phrases.{whole_mono_is_refused, whole_formula_is_refused, whole_proof_is_refused}
use Rattle.theory_refusals.proofs.refusals_to_the_end_are_right.Goals as goal

pub returns-clause-monotypes : goal.returns-clause-monotypes
returns-clause-monotypes c = whole_mono_is_refused

pub returns-clause-formulas : goal.returns-clause-formulas
returns-clause-formulas c = whole_formula_is_refused

pub returns-clause-proofs : goal.returns-clause-proofs
returns-clause-proofs c = whole_proof_is_refused

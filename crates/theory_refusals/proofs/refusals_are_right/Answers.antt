use Rattle.theory_refusals.proofs.Phrases.{mono_is_refused, formula_is_refused, proof_is_refused}
use Rattle.theory_refusals.proofs.Files.{file_is_refused}
use Rattle.theory_refusals.proofs.refusals_are_right.Goals as goal

pub returns-clause-monotypes : goal.returns-clause-monotypes
returns-clause-monotypes c = mono_is_refused

pub returns-clause-formulas : goal.returns-clause-formulas
returns-clause-formulas c = formula_is_refused

pub returns-clause-proofs : goal.returns-clause-proofs
returns-clause-proofs c = proof_is_refused

pub returns-clause-files : goal.returns-clause-files
returns-clause-files c = file_is_refused

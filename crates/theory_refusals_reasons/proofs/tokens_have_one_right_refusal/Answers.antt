use Rattle.theory_refusals_reasons.proofs.Phrases.{mono_has_one_refusal, formula_has_one_refusal, proof_has_one_refusal}
use Rattle.theory_refusals_reasons.proofs.Files.{file_has_one_refusal}
use Rattle.theory_refusals_reasons.proofs.tokens_have_one_right_refusal.Goals as goal

pub returns-clause-monotypes : goal.returns-clause-monotypes
returns-clause-monotypes c = mono_has_one_refusal

pub returns-clause-formulas : goal.returns-clause-formulas
returns-clause-formulas c = formula_has_one_refusal

pub returns-clause-proofs : goal.returns-clause-proofs
returns-clause-proofs c = proof_has_one_refusal

pub returns-clause-files : goal.returns-clause-files
returns-clause-files c = file_has_one_refusal

use Rattle.theory_reading_completions.proofs.Laws.{mono_starts, type_starts, term_starts, comp_starts, formula_starts, proof_starts, decl_starts}
use Rattle.theory_reading_completions.proofs.phrases_begin_as_is_said.Goals as goal

pub returns-clause-monotypes : goal.returns-clause-monotypes
returns-clause-monotypes c = mono_starts

pub returns-clause-types : goal.returns-clause-types
returns-clause-types c = type_starts

pub returns-clause-terms : goal.returns-clause-terms
returns-clause-terms c = term_starts

pub returns-clause-computations : goal.returns-clause-computations
returns-clause-computations c = comp_starts

pub returns-clause-formulas : goal.returns-clause-formulas
returns-clause-formulas c = formula_starts

pub returns-clause-proofs : goal.returns-clause-proofs
returns-clause-proofs c = proof_starts

pub returns-clause-declarations : goal.returns-clause-declarations
returns-clause-declarations c = decl_starts

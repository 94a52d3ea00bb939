use Rattle.theory_reading_limits.proofs.Laws.{mono_stops_past, formula_stops_past, proof_stops_past, file_stops_past}
use Rattle.theory_reading_limits.proofs.what_is_refused_at_a_limit_is_past_it.Goals as goal

pub returns-clause-monotypes : goal.returns-clause-monotypes
returns-clause-monotypes c = mono_stops_past

pub returns-clause-formulas : goal.returns-clause-formulas
returns-clause-formulas c = formula_stops_past

pub returns-clause-proofs : goal.returns-clause-proofs
returns-clause-proofs c = proof_stops_past

pub returns-clause-files : goal.returns-clause-files
returns-clause-files c = file_stops_past

use Rattle.theory_reading_places.proofs.Laws.{mono_stops_stay, formula_stops_stay, proof_stops_stay, file_stops_stay}
use Rattle.theory_reading_places.proofs.a_greater_limit_keeps_stops_at_the_other.Goals as goal

pub returns-clause-monotypes : goal.returns-clause-monotypes
returns-clause-monotypes c = mono_stops_stay

pub returns-clause-formulas : goal.returns-clause-formulas
returns-clause-formulas c = formula_stops_stay

pub returns-clause-proofs : goal.returns-clause-proofs
returns-clause-proofs c = proof_stops_stay

pub returns-clause-files : goal.returns-clause-files
returns-clause-files c = file_stops_stay

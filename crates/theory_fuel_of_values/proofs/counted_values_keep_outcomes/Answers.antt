use Rattle.theory_fuel_of_values.proofs.Law.{counted}
use Rattle.theory_fuel_of_values.proofs.counted_values_keep_outcomes.Goals as goal

pub returns : goal.returns
returns c = record { law = counted }

use Rattle.theory_fuel_of_values.proofs.Law.{instance_heads}
use Rattle.theory_fuel_of_values.proofs.instance_heads_keep_outcomes.Goals as goal

pub returns : goal.returns
returns c = record { law = instance_heads }

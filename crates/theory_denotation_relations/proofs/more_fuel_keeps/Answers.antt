use Rattle.theory_denotation_relations.proofs.Fuel.{more_fuel}
use Rattle.theory_denotation_relations.proofs.more_fuel_keeps.Goals as goal

pub returns : goal.returns
returns c = record { law = more_fuel }

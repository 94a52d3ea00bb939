use Rattle.theory_flat_fuel.proofs.Fuel.{kept}
use Rattle.theory_flat_fuel.proofs.more_fuel_keeps.Goals as goal

pub returns : goal.returns
returns c = record { law = kept }

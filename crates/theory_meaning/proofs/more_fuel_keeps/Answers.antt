use Rattle.theory_meaning.proofs.RunFuel.{more_fuel_keeps}
use Rattle.theory_meaning.proofs.more_fuel_keeps.Goals as goal

pub returns : goal.returns
returns c = record { law = more_fuel_keeps }

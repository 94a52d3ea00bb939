use Rattle.theory_flat_narrow.proofs.Narrow.{instances_are_narrow}
use Rattle.theory_flat_narrow.proofs.instances_are_narrow.Goals as goal

pub returns : goal.returns
returns c = record { law = instances_are_narrow }

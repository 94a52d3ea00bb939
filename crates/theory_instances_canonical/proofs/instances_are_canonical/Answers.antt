use Rattle.theory_instances_canonical.proofs.Taken.{canonical}
use Rattle.theory_instances_canonical.proofs.instances_are_canonical.Goals as goal

pub returns : goal.returns
returns c = record { law = canonical }

use Rattle.theory_instances_formed.proofs.Listed.{formed}
use Rattle.theory_instances_formed.proofs.instances_are_formed.Goals as goal

pub returns : goal.returns
returns c = record { law = formed }

use Rattle.theory_instances_linked.proofs.Instances.{denote}
use Rattle.theory_instances_linked.proofs.instances_denote.Goals as goal

pub returns : goal.returns
returns c = record { law = denote }

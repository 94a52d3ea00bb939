use Rattle.theory_logic_instances.proofs.Instances.{instances}
use Rattle.theory_logic_instances.proofs.instances_are_true.Goals as goal

pub returns : goal.returns
returns c = record { law = instances }

use Rattle.theory_logic_sorts.proofs.Instances.{instance_sorted}
use Rattle.theory_logic_sorts.proofs.instances_are_sorted.Goals as goal

pub returns : goal.returns
returns c = record { law = instance_sorted }

use Rattle.theory_logic_axioms.proofs.Scoping.{instance_scoped}
use Rattle.theory_logic_axioms.proofs.instance_in_scope.Goals as goal

pub returns : goal.returns
returns c = record { law = instance_scoped }

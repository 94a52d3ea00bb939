use Rattle.theory_logic_axioms.proofs.Canonicity.{instance_canonical}
use Rattle.theory_logic_axioms.proofs.instance_is_canonical.Goals as goal

pub returns : goal.returns
returns c = record { law = instance_canonical }

use Rattle.theory_logic_axioms_true.proofs.WithoutConditions.{needed}
use Rattle.theory_logic_axioms_true.proofs.conditions_are_needed.Goals as goal

pub returns : goal.returns
returns c = record { law = needed }

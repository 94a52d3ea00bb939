use Rattle.theory_logic_axioms_satisfied.proofs.Satisfied.{satisfied}
use Rattle.theory_logic_axioms_satisfied.proofs.axioms_are_satisfied.Goals as goal

pub returns : goal.returns
returns c = record { law = satisfied }

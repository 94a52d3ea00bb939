use Rattle.theory_logic_axioms_true.proofs.True.{axioms}
use Rattle.theory_logic_axioms_true.proofs.axioms_are_true.Goals as goal

pub returns : goal.returns
returns c = record { law = axioms }

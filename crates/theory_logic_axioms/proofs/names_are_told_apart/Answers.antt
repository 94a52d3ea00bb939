use Rattle.theory_logic_axioms.proofs.Texts.{one_name}
use Rattle.theory_logic_axioms.proofs.names_are_told_apart.Goals as goal

pub returns : goal.returns
returns c = record { law = one_name }

use Rattle.theory_logic_true.proofs.Consistent.{consistent}
use Rattle.theory_logic_true.proofs.proofs_are_consistent.Goals as goal

pub returns : goal.returns
returns c = record { law = consistent }

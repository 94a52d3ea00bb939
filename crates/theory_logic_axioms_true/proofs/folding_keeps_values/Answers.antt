use Rattle.theory_logic_axioms_true.proofs.Folded.{folded}
use Rattle.theory_logic_axioms_true.proofs.folding_keeps_values.Goals as goal

pub returns : goal.returns
returns c = record { law = folded }

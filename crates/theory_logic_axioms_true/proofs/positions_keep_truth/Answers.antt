use Rattle.theory_logic_axioms_true.proofs.Plain.{plain}
use Rattle.theory_logic_axioms_true.proofs.positions_keep_truth.Goals as goal

pub returns : goal.returns
returns c = record { law = plain }

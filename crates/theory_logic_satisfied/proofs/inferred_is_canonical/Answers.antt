use Rattle.theory_logic_satisfied.proofs.Forms.{inferred_canonical}
use Rattle.theory_logic_satisfied.proofs.inferred_is_canonical.Goals as goal

pub returns : goal.returns
returns c = record { law = inferred_canonical }

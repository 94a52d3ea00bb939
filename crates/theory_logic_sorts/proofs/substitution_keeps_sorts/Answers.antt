use Rattle.theory_logic_sorts.proofs.Substituted.{substituted}
use Rattle.theory_logic_sorts.proofs.substitution_keeps_sorts.Goals as goal

pub returns : goal.returns
returns c = record { law = substituted }

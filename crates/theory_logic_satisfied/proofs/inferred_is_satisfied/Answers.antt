use Rattle.theory_logic_satisfied.proofs.Satisfied.{inferred}
use Rattle.theory_logic_satisfied.proofs.inferred_is_satisfied.Goals as goal

pub returns : goal.returns
returns c = record { law = inferred }

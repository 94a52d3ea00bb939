use Rattle.theory_logic_true.proofs.True.{inferred}
use Rattle.theory_logic_true.proofs.inferred_is_true.Goals as goal

pub returns : goal.returns
returns c = record { law = inferred }

use Rattle.theory_file_obligations.proofs.True.{proved_goal}
use Rattle.theory_file_obligations.proofs.proved_is_true_goal.Goals as goal

pub returns : goal.returns
returns c = record { law = proved_goal }

use Rattle.theory_logic_rules.proofs.Once.{one_inferred}
use Rattle.theory_logic_rules.proofs.proof_infers_one.Goals as goal

pub returns : goal.returns
returns c = record { law = one_inferred }

use Rattle.theory_checking_proofs.proofs.Reached.{proved_is_not_refused}
use Rattle.theory_checking_proofs.proofs.proved_is_not_refused.Goals as goal

pub returns : goal.returns
returns c = record { law = proved_is_not_refused }

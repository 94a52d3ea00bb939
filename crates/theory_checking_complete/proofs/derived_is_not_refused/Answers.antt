use Rattle.theory_checking_complete.proofs.Complete.{derived_is_not_refused}
use Rattle.theory_checking_complete.proofs.derived_is_not_refused.Goals as goal

pub returns : goal.returns
returns c = record { law = derived_is_not_refused }

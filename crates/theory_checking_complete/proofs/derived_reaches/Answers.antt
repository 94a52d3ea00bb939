use Rattle.theory_checking_complete.proofs.Complete.{derived_reaches}
use Rattle.theory_checking_complete.proofs.derived_reaches.Goals as goal

pub returns : goal.returns
returns c = record { law = derived_reaches }

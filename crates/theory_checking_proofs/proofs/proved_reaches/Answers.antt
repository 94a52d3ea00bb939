use Rattle.theory_checking_proofs.proofs.Reached.{proved_reaches}
use Rattle.theory_checking_proofs.proofs.proved_reaches.Goals as goal

pub returns : goal.returns
returns c = record { law = proved_reaches }

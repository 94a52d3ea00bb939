use Rattle.theory_formed_met.proofs.Occurring.{only_met}
use Rattle.theory_formed_met.proofs.only_met_is_needed.Goals as goal

pub returns : goal.returns
returns c = record { law = only_met }

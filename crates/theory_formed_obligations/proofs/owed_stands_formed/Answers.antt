use Rattle.theory_formed_obligations.proofs.Owed.{owed_formed_all}
use Rattle.theory_formed_obligations.proofs.owed_stands_formed.Goals as goal

pub returns : goal.returns
returns c = record { law = owed_formed_all }

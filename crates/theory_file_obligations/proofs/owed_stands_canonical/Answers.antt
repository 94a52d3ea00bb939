use Rattle.theory_file_obligations.proofs.Owed.{owed_canonical}
use Rattle.theory_file_obligations.proofs.owed_stands_canonical.Goals as goal

pub returns : goal.returns
returns c = record { law = owed_canonical }

use Rattle.theory_truth.proofs.Renamed.{renamed}
use Rattle.theory_truth.proofs.renaming_keeps_truth.Goals as goal

pub returns : goal.returns
returns c = record { law = renamed }

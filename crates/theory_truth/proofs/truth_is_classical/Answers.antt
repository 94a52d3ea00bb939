use Rattle.theory_truth.proofs.Stable.{classical}
use Rattle.theory_truth.proofs.truth_is_classical.Goals as goal

pub returns : goal.returns
returns c = record { law = classical }

use Rattle.theory_truth.proofs.Unfolding.{unfolds}
use Rattle.theory_truth.proofs.predicates_unfold.Goals as goal

pub returns : goal.returns
returns c = record { law = unfolds }

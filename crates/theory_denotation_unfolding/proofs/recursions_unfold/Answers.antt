use Rattle.theory_denotation_unfolding.proofs.Unfolded.{unfolds}
use Rattle.theory_denotation_unfolding.proofs.recursions_unfold.Goals as goal

pub returns : goal.returns
returns c = record { law = unfolds }

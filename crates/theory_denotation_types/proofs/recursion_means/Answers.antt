use Rattle.theory_denotation_types.proofs.Recursions.{recursions}
use Rattle.theory_denotation_types.proofs.recursion_means.Goals as goal

pub returns : goal.returns
returns c = record { law = recursions }

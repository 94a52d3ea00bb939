use Rattle.theory_adequacy.proofs.Recursions.{recursed}
use Rattle.theory_adequacy.proofs.recursion_is_realised.Goals as goal

pub returns : goal.returns
returns c = record { law = recursed }

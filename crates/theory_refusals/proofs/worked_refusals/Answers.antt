use Rattle.theory_refusals.proofs.Examples.{worked_refusals}
use Rattle.theory_refusals.proofs.worked_refusals.Goals as goal

pub returns : goal.returns
returns c = record { examples = worked_refusals }

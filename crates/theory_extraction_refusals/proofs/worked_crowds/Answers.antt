use Rattle.theory_extraction_refusals.proofs.Crowds.{worked}
use Rattle.theory_extraction_refusals.proofs.worked_crowds.Goals as goal

pub returns : goal.returns
returns c = record { examples = worked }

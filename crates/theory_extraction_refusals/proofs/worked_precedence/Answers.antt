use Rattle.theory_extraction_refusals.proofs.Precedence.{worked}
use Rattle.theory_extraction_refusals.proofs.worked_precedence.Goals as goal

pub returns : goal.returns
returns c = record { examples = worked }

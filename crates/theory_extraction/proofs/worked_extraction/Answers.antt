use Rattle.theory_extraction.proofs.Worked.{worked}
use Rattle.theory_extraction.proofs.worked_extraction.Goals as goal

pub returns : goal.returns
returns c = record { examples = worked }

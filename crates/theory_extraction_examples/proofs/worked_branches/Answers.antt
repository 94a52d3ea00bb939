use Rattle.theory_extraction_examples.proofs.Branches.{worked}
use Rattle.theory_extraction_examples.proofs.worked_branches.Goals as goal

pub returns : goal.returns
returns c = record { examples = worked }

use Rattle.theory_extraction_examples.proofs.Handed.{worked}
use Rattle.theory_extraction_examples.proofs.worked_handed.Goals as goal

pub returns : goal.returns
returns c = record { examples = worked }

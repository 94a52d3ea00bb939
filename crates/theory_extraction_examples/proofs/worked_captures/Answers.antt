use Rattle.theory_extraction_examples.proofs.Captures.{worked}
use Rattle.theory_extraction_examples.proofs.worked_captures.Goals as goal

pub returns : goal.returns
returns c = record { examples = worked }

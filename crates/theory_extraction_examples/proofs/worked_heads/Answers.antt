use Rattle.theory_extraction_examples.proofs.Heads.{worked}
use Rattle.theory_extraction_examples.proofs.worked_heads.Goals as goal

pub returns : goal.returns
returns c = record { examples = worked }

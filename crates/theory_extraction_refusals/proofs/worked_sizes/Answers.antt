use Rattle.theory_extraction_refusals.proofs.Sizes.{worked}
use Rattle.theory_extraction_refusals.proofs.worked_sizes.Goals as goal

pub returns : goal.returns
returns c = record { examples = worked }

use Rattle.theory_truth.proofs.Examples.{worked}
use Rattle.theory_truth.proofs.worked_examples.Goals as goal

pub returns : goal.returns
returns c = record { examples = worked }

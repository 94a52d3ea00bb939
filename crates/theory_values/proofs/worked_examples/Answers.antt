use Rattle.theory_values.proofs.Examples.{worked}
use Rattle.theory_values.proofs.worked_examples.Goals as goal

pub returns : goal.returns
returns c = record { examples = worked }

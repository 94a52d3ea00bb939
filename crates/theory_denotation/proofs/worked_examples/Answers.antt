use Rattle.theory_denotation.proofs.Examples.{worked}
use Rattle.theory_denotation.proofs.worked_examples.Goals as goal

pub returns : goal.returns
returns c = record { examples = worked }

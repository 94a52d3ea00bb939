use Rattle.theory_meaning.proofs.Examples.{worked}
use Rattle.theory_meaning.proofs.worked_examples.Goals as goal

pub returns : goal.returns
returns c = record { examples = worked }

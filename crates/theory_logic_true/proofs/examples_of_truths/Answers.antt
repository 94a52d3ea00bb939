use Rattle.theory_logic_true.proofs.Examples.{worked}
use Rattle.theory_logic_true.proofs.examples_of_truths.Goals as goal

pub returns : goal.returns
returns c = record { examples = worked }

use Rattle.theory_formed_shapes.proofs.Worked.{worked}
use Rattle.theory_formed_shapes.proofs.worked_examples.Goals as goal

pub returns : goal.returns
returns c = record { examples = worked }

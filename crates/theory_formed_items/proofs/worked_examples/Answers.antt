use Rattle.theory_formed_items.proofs.Worked.{worked}
use Rattle.theory_formed_items.proofs.worked_examples.Goals as goal

pub returns : goal.returns
returns c = record { examples = worked }

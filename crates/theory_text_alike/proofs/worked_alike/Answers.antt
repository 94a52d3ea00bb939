use Rattle.theory_text_alike.proofs.Examples.{worked}
use Rattle.theory_text_alike.proofs.worked_alike.Goals as goal

pub returns : goal.returns
returns c = record { examples = worked }

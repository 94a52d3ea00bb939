use Rattle.theory_counts.proofs.Worked.{worked}
use Rattle.theory_counts.proofs.worked_counts.Goals as goal

pub returns : goal.returns
returns c = record { examples = worked }

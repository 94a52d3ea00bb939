use Rattle.theory_counts_monotypes.proofs.Worked.{worked}
use Rattle.theory_counts_monotypes.proofs.worked_counts.Goals as goal

pub returns : goal.returns
returns c = record { examples = worked }

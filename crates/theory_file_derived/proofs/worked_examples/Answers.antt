use Rattle.theory_file_derived.proofs.Worked.{worked}
use Rattle.theory_file_derived.proofs.worked_examples.Goals as goal

pub returns : goal.returns
returns c = record { law = worked }

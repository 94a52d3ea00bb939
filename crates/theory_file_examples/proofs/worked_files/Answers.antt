use Rattle.theory_file_examples.proofs.Worked.{worked}
use Rattle.theory_file_examples.proofs.worked_files.Goals as goal

pub returns : goal.returns
returns c = record { law = worked }

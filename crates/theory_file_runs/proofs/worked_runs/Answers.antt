use Rattle.theory_file_runs.proofs.Runs.{worked}
use Rattle.theory_file_runs.proofs.worked_runs.Goals as goal

pub returns : goal.returns
returns c = record { law = worked }

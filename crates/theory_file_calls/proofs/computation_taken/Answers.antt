use Rattle.theory_file_calls.proofs.Takers.{taken}
use Rattle.theory_file_calls.proofs.computation_taken.Goals as goal

pub returns : goal.returns
returns c = record { law = taken }

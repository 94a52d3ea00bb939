use Rattle.theory_file_calls.proofs.Calls.{calls}
use Rattle.theory_file_calls.proofs.values_that_call.Goals as goal

pub returns : goal.returns
returns c = record { law = calls }

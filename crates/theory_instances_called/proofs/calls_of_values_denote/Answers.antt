use Rattle.theory_instances_called.proofs.Called.{called}
use Rattle.theory_instances_called.proofs.calls_of_values_denote.Goals as goal

pub returns : goal.returns
returns c = record { law = called }

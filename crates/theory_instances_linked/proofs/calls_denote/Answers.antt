use Rattle.theory_instances_linked.proofs.Calls.{calls}
use Rattle.theory_instances_linked.proofs.calls_denote.Goals as goal

pub returns : goal.returns
returns c = record { law = calls }

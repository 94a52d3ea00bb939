use Rattle.theory_instances_keys.proofs.Agreeing.{only_met}
use Rattle.theory_instances_keys.proofs.only_met_count.Goals as goal

pub returns : goal.returns
returns c = record { law = only_met }

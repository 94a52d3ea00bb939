use Rattle.theory_instances_keys.proofs.Keys.{keys}
use Rattle.theory_instances_keys.proofs.keys_denote.Goals as goal

pub returns : goal.returns
returns c = record { law = keys }

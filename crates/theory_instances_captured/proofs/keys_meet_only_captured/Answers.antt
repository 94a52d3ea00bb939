use Rattle.theory_instances_captured.proofs.Captured.{captured}
use Rattle.theory_instances_captured.proofs.keys_meet_only_captured.Goals as goal

pub returns : goal.returns
returns c = record { law = captured }

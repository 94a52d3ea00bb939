use Rattle.theory_instances_heads.proofs.Made.{have_heads}
use Rattle.theory_instances_heads.proofs.instances_have_heads.Goals as goal

pub returns : goal.returns
returns c = record { law = have_heads }

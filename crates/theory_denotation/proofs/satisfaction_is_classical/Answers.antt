use Rattle.theory_denotation.proofs.Classical.{classical}
use Rattle.theory_denotation.proofs.satisfaction_is_classical.Goals as goal

pub returns : goal.returns
returns c = record { law = classical }

use Rattle.theory_denotation.proofs.StepsAgree.{agree}
use Rattle.theory_denotation.proofs.steps_agree.Goals as goal

pub returns : goal.returns
returns c = record { law = agree }

use Rattle.theory_formed_substitution.proofs.Put.{keeps_formed}
use Rattle.theory_formed_substitution.proofs.substitution_keeps_formed.Goals as goal

pub returns : goal.returns
returns c = record { law = keeps_formed }

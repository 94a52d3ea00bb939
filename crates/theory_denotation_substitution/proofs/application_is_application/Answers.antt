use Rattle.theory_denotation_substitution.proofs.Formulas.{application}
use Rattle.theory_denotation_substitution.proofs.application_is_application.Goals as goal

pub returns : goal.returns
returns c = record { law = application }

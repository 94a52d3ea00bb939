use Rattle.theory_substitution.proofs.Once.{app_once}
use Rattle.theory_substitution.proofs.application_gives_one.Goals as goal

pub returns : goal.returns
returns c = record { law = λ f a r q s d e. app_once d e }

use Rattle.theory_substitution_total.proofs.Total.{applied_canonical}
use Rattle.theory_substitution_total.proofs.application_gives_canonical.Goals as goal

pub returns : goal.returns
returns c = record { law = λ heads g f a s t d e. applied_canonical d e }

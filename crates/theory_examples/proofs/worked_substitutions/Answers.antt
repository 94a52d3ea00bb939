use Rattle.theory_examples.proofs.Substitutions.{substitutions}
use Rattle.theory_examples.proofs.worked_substitutions.Goals as goal

pub returns : goal.returns
returns c = record { substitutions = substitutions }

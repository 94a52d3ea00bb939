use Rattle.theory_instances_passing.proofs.Walked.{agrees}
use Rattle.theory_instances_passing.proofs.passing_on_agrees.Goals as goal

pub returns : goal.returns
returns c = record { law = agrees }

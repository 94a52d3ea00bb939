use Rattle.theory_adequacy.proofs.Examples.{examples}
use Rattle.theory_adequacy.proofs.worked_examples.Goals as goal

pub returns : goal.returns
returns c = record { law = examples }

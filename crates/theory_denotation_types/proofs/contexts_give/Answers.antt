use Rattle.theory_denotation_types.proofs.Given.{given}
use Rattle.theory_denotation_types.proofs.contexts_give.Goals as goal

pub returns : goal.returns
returns c = record { law = given }

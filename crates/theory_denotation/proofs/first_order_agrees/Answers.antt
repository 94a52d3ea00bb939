use Rattle.theory_denotation.proofs.FirstOrder.{agrees}
use Rattle.theory_denotation.proofs.first_order_agrees.Goals as goal

pub returns : goal.returns
returns c = record { law = agrees }

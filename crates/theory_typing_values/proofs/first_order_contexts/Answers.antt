use Rattle.theory_typing_values.proofs.FirstOrder.{contexts}
use Rattle.theory_typing_values.proofs.first_order_contexts.Goals as goal

pub returns : goal.returns
returns c = record { law = contexts }

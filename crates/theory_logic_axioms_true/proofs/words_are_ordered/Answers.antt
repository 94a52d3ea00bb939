use Rattle.theory_logic_axioms_true.proofs.Order.{order}
use Rattle.theory_logic_axioms_true.proofs.words_are_ordered.Goals as goal

pub returns : goal.returns
returns c = record { law = order }

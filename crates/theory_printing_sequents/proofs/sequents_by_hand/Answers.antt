use Rattle.theory_printing_sequents.proofs.Examples.{examples}
use Rattle.theory_printing_sequents.proofs.sequents_by_hand.Goals as goal

pub returns : goal.returns
returns c = record { law = examples }

use Rattle.theory_flat_closed.proofs.Closed.{closed}
use Rattle.theory_flat_closed.proofs.lists_are_closed.Goals as goal

pub returns : goal.returns
returns c = record { law = closed }

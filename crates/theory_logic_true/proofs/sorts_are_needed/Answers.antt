use Rattle.theory_logic_true.proofs.Examples.{needed}
use Rattle.theory_logic_true.proofs.sorts_are_needed.Goals as goal

pub returns : goal.returns
returns c = record { law = needed }

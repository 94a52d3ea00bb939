use Rattle.theory_logic_unfoldings_satisfied.proofs.Unfolded.{unfoldings}
use Rattle.theory_logic_unfoldings_satisfied.proofs.unfoldings_are_satisfied.Goals as goal

pub returns : goal.returns
returns c = record { law = unfoldings }

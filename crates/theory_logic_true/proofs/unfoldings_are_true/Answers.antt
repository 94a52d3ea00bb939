use Rattle.theory_logic_true.proofs.Unfoldings.{unfoldings}
use Rattle.theory_logic_true.proofs.unfoldings_are_true.Goals as goal

pub returns : goal.returns
returns c = record { law = unfoldings }

use Rattle.theory_formed_states.proofs.States.{states_formed}
use Rattle.theory_formed_states.proofs.states_keep_formed.Goals as goal

pub returns : goal.returns
returns c = record { law = states_formed }

use Rattle.theory_states.proofs.Ends.{finish_scoped}
use Rattle.theory_states.proofs.ends_keep_scope.Goals as goal

pub returns : goal.returns
returns c = record { law = finish_scoped }

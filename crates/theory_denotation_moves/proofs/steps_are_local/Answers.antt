use Rattle.theory_denotation_moves.proofs.Local.{local}
use Rattle.theory_denotation_moves.proofs.steps_are_local.Goals as goal

pub returns : goal.returns
returns c = record { law = local }

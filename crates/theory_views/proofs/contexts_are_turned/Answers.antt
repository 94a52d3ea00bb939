use Rattle.theory_views.proofs.Turned.{turned}
use Rattle.theory_views.proofs.contexts_are_turned.Goals as goal

pub returns : goal.returns
returns c = record { law = turned }

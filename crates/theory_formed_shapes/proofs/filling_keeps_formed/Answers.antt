use Rattle.theory_formed_shapes.proofs.Filled.{filling_formed}
use Rattle.theory_formed_shapes.proofs.filling_keeps_formed.Goals as goal

pub returns : goal.returns
returns c = record { law = filling_formed }

use Rattle.theory_formed_shapes.proofs.Renamed.{renaming_formed}
use Rattle.theory_formed_shapes.proofs.renaming_keeps_formed.Goals as goal

pub returns : goal.returns
returns c = record { law = renaming_formed }

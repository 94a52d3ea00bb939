use Rattle.theory_flat.proofs.Worked.{worked, read}
use Rattle.theory_flat.proofs.worked_flat_bodies.Goals as goal

pub returns : goal.returns
returns c = record { bodies = worked; readings = read }

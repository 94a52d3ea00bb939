use Rattle.theory_flat_denoted.proofs.Bodies.{flat_denoted}
use Rattle.theory_flat_denoted.proofs.flat_bodies_denote.Goals as goal

pub returns : goal.returns
returns c = record { law = flat_denoted }

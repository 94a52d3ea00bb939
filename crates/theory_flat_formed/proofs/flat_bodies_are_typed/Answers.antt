use Rattle.theory_flat_formed.proofs.Listed.{flat_typed}
use Rattle.theory_flat_formed.proofs.flat_bodies_are_typed.Goals as goal

pub returns : goal.returns
returns c = record { law = flat_typed }

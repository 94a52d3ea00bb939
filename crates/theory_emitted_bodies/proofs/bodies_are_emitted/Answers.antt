use Rattle.theory_emitted_bodies.proofs.Bodies.{emitted_bodies}
use Rattle.theory_emitted_bodies.proofs.bodies_are_emitted.Goals as goal

pub returns : goal.returns
returns c = record { law = emitted_bodies }

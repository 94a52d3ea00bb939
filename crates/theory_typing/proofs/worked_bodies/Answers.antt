use Rattle.theory_typing.proofs.Bodies.{items, bodies}
use Rattle.theory_typing.proofs.worked_bodies.Goals as goal

pub returns : goal.returns
returns c = record { items = items; bodies = bodies }

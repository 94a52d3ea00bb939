use Rattle.theory_typing.proofs.Orders.{terms, steps, runs}
use Rattle.theory_typing.proofs.worked_orders.Goals as goal

pub returns : goal.returns
returns c = record { terms = terms; steps = steps; runs = runs }

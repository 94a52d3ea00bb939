use Rattle.theory_checking_examples.proofs.Orders.{terms, formulas, steps, within_limits}
use Rattle.theory_checking_examples.proofs.checks_in_order.Goals as goal

pub returns : goal.returns
returns c = record { terms = terms; formulas = formulas; steps = steps; within = within_limits }

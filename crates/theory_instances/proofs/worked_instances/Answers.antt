use Rattle.theory_instances.proofs.Worked.{worked, worked_keys}
use Rattle.theory_instances.proofs.Orders.{worked_orders}
use Rattle.theory_instances.proofs.worked_instances.Goals as goal

pub returns : goal.returns
returns c = record { lists = worked; keys = worked_keys; orders = worked_orders }

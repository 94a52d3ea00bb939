use Rattle.theory_instances_denoted.proofs.Bodies.{vals_denote, fixes_denote}
use Rattle.theory_instances_denoted.proofs.bodies_denote.Goals as goal

pub returns : goal.returns
returns c = record { of_values = vals_denote; of_recursive_functions = fixes_denote }

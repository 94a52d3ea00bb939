use Rattle.theory_logic_axioms.proofs.Examples.{word_instances, heap_instances, side_conditions, refusals}
use Rattle.theory_logic_axioms.proofs.examples_of_axioms.Goals as goal

pub returns : goal.returns
returns c = record { words = word_instances; heaps = heap_instances; side_conditions = side_conditions; refusals = refusals }

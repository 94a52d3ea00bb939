use Rattle.theory_values.proofs.Joins.{heap_laws}
use Rattle.theory_values.proofs.heap_laws.Goals as goal

pub returns : goal.returns
returns c = record { laws = heap_laws }

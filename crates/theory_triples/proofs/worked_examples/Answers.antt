use Rattle.theory_triples.proofs.Examples.{worked}
use Rattle.theory_triples.proofs.worked_examples.Goals as goal

pub returns : goal.returns
returns c = record { examples = worked }

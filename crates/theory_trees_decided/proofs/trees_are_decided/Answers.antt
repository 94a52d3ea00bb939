use Rattle.theory_trees_decided.proofs.Decided.{decided}
use Rattle.theory_trees_decided.proofs.trees_are_decided.Goals as goal

pub returns : goal.returns
returns c = record { law = decided }

use Rattle.theory_logic_sorts.proofs.Canonical.{canonical}
use Rattle.theory_logic_sorts.proofs.canonical_trees_are_sorted.Goals as goal

pub returns : goal.returns
returns c = record { law = canonical }

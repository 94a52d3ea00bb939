-- The worked examples hold.
use Rattle.std.proofs.Common.{refl}
use Rattle.theory_counts.specs.Nodes.{nodes_mono, nodes_option}
use Rattle.theory_counts_monotypes.specs.Monotypes.{greatest_in_term}
use Rattle.theory_counts_monotypes.specs.Examples.{WorkedCounts}

pub worked : WorkedCounts
unfolding greatest_in_term nodes_mono nodes_option
worked = record { variable = refl; comparison = refl; cell = refl; written = refl }

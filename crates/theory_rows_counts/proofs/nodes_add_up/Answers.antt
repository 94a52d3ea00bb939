use Rattle.theory_rows_counts.proofs.Sums.{nodes_add_up}
use Rattle.theory_rows_counts.proofs.nodes_add_up.Goals as goal

pub returns : goal.returns
returns c = record { law = nodes_add_up }

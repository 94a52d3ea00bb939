use Rattle.logic_axioms_names.proofs.Rows.{axiom_table, found_exactly}
use Rattle.logic_axioms_names.proofs.names.named.Goals as goal

pub returns : goal.returns
unfolding axiom_table
returns c = record { named = λ name. rw c.row_of.ensures (found_exactly c.args.text.now name) }

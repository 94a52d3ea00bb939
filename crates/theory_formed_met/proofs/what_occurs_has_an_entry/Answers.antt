use Rattle.theory_formed_met.proofs.Entries.{entries}
use Rattle.theory_formed_met.proofs.what_occurs_has_an_entry.Goals as goal

pub returns : goal.returns
returns c = record { law = entries }

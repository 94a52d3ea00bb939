use Rattle.theory_logic_substitution.proofs.Entries.{decided}
use Rattle.theory_logic_substitution.proofs.entries_decide.Goals as goal

pub returns : goal.returns
returns c = record { law = decided }

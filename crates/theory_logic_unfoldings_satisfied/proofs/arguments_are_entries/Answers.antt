use Rattle.theory_logic_unfoldings_satisfied.proofs.Arguments.{are_entries}
use Rattle.theory_logic_unfoldings_satisfied.proofs.arguments_are_entries.Goals as goal

pub returns : goal.returns
returns c = record { law = are_entries }

use Rattle.theory_logic_substitution.proofs.Arguments.{arguments_are_entries}
use Rattle.theory_logic_substitution.proofs.arguments_reindex.Goals as goal

pub returns : goal.returns
returns c = record { law = arguments_are_entries }

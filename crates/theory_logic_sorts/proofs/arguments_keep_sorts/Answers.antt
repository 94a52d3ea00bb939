use Rattle.theory_logic_sorts.proofs.Arguments.{arguments_sorted}
use Rattle.theory_logic_sorts.proofs.arguments_keep_sorts.Goals as goal

pub returns : goal.returns
returns c = record { law = arguments_sorted }

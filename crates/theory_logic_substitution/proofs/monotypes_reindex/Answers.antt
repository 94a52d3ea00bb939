use Rattle.theory_logic_substitution.proofs.Monotypes.{monotypes}
use Rattle.theory_logic_substitution.proofs.monotypes_reindex.Goals as goal

pub returns : goal.returns
returns c = record { law = monotypes }

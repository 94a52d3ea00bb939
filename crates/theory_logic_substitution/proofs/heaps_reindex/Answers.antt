use Rattle.theory_logic_substitution.proofs.Heaps.{heaps}
use Rattle.theory_logic_substitution.proofs.heaps_reindex.Goals as goal

pub returns : goal.returns
returns c = record { law = heaps }

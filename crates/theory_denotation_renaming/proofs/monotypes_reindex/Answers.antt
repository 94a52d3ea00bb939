use Rattle.theory_denotation_renaming.proofs.FilledTruth.{reindex}
use Rattle.theory_denotation_renaming.proofs.monotypes_reindex.Goals as goal

pub returns : goal.returns
returns c = record { law = reindex }

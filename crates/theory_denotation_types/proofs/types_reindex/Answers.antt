use Rattle.theory_denotation_types.proofs.Reindexed.{reindex}
use Rattle.theory_denotation_types.proofs.types_reindex.Goals as goal

pub returns : goal.returns
returns c = record { law = reindex }

use Rattle.theory_adequacy.proofs.Reindexed.{reindex}
use Rattle.theory_adequacy.proofs.realisation_reindexes.Goals as goal

pub returns : goal.returns
returns c = record { law = reindex }

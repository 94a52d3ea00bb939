use Rattle.theory_denotation_renaming.proofs.RenamedTruth.{reindexes}
use Rattle.theory_denotation_renaming.proofs.renaming_reindexes.Goals as goal

pub returns : goal.returns
returns c = record { law = reindexes }

use Rattle.theory_denotation_shapes.proofs.Reindexed.{reindex}
use Rattle.theory_denotation_shapes.proofs.shapes_reindex.Goals as goal

pub returns : goal.returns
returns c = record { law = reindex }

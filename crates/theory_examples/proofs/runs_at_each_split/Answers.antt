use Rattle.theory_examples.proofs.Variants.{runs_at_each_split}
use Rattle.theory_examples.proofs.runs_at_each_split.Goals as goal

pub returns : goal.returns
returns c = record { law = runs_at_each_split }

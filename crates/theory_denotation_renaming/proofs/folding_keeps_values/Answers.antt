use Rattle.theory_denotation_renaming.proofs.Folded.{folded}
use Rattle.theory_denotation_renaming.proofs.folding_keeps_values.Goals as goal

pub returns : goal.returns
returns c = record { law = folded }

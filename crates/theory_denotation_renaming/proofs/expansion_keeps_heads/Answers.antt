use Rattle.theory_denotation_renaming.proofs.Expanded.{kept}
use Rattle.theory_denotation_renaming.proofs.expansion_keeps_heads.Goals as goal

pub returns : goal.returns
returns c = record { law = kept }

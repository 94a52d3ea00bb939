use Rattle.theory_denotation_substitution.proofs.Formulas.{heads_kept}
use Rattle.theory_denotation_substitution.proofs.heads_are_kept.Goals as goal

pub returns : goal.returns
returns c = record { law = heads_kept }

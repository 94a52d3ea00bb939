use Rattle.theory_denotation_substitution.proofs.Formulas.{sequence}
use Rattle.theory_denotation_substitution.proofs.splicing_is_sequence.Goals as goal

pub returns : goal.returns
returns c = record { law = sequence }

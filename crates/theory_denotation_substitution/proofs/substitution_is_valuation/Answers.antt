use Rattle.theory_denotation_substitution.proofs.Formulas.{valuation}
use Rattle.theory_denotation_substitution.proofs.substitution_is_valuation.Goals as goal

pub returns : goal.returns
returns c = record { law = valuation }

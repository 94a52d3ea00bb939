use Rattle.theory_adequacy_terms.proofs.Adequate.{adequate}
use Rattle.theory_adequacy_terms.proofs.denotation_is_adequate.Goals as goal

pub returns : goal.returns
returns c = record { law = adequate }

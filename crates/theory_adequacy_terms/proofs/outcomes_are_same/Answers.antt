use Rattle.theory_adequacy_terms.proofs.Same.{same}
use Rattle.theory_adequacy_terms.proofs.outcomes_are_same.Goals as goal

pub returns : goal.returns
returns c = record { law = same }

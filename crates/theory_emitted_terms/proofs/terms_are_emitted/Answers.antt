use Rattle.theory_emitted_terms.proofs.Terms.{emitted_terms}
use Rattle.theory_emitted_terms.proofs.terms_are_emitted.Goals as goal

pub returns : goal.returns
returns c = record { law = emitted_terms }

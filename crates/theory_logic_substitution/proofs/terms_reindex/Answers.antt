use Rattle.theory_logic_substitution.proofs.Terms.{terms}
use Rattle.theory_logic_substitution.proofs.terms_reindex.Goals as goal

pub returns : goal.returns
returns c = record { law = terms }

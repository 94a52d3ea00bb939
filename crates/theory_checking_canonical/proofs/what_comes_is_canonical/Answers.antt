use Rattle.theory_checking_canonical.proofs.Canonical.{what_comes_is_canonical}
use Rattle.theory_checking_canonical.proofs.what_comes_is_canonical.Goals as goal

pub returns : goal.returns
returns c = record { law = what_comes_is_canonical }

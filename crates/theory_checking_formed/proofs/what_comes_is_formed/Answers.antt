use Rattle.theory_checking_formed.proofs.Formed.{what_comes_is_formed}
use Rattle.theory_checking_formed.proofs.what_comes_is_formed.Goals as goal

pub returns : goal.returns
returns c = record { law = what_comes_is_formed }

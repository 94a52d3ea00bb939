use Rattle.theory_checking_narrow.proofs.Checked.{what_comes_is_narrow}
use Rattle.theory_checking_narrow.proofs.what_comes_is_narrow.Goals as goal

pub returns : goal.returns
returns c = record { law = what_comes_is_narrow }

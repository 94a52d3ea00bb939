use Rattle.theory_checking.proofs.Once.{checking_comes_to_one}
use Rattle.theory_checking.proofs.checking_comes_to_one.Goals as goal

pub returns : goal.returns
returns c = record { law = checking_comes_to_one }

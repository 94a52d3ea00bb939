use Rattle.theory_checking_proofs.proofs.Once.{proofs_come_to_one}
use Rattle.theory_checking_proofs.proofs.proofs_come_to_one.Goals as goal

pub returns : goal.returns
returns c = record { law = proofs_come_to_one }

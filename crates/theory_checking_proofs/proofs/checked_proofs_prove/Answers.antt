use Rattle.theory_checking_proofs.proofs.Proved.{checked_proofs_prove}
use Rattle.theory_checking_proofs.proofs.checked_proofs_prove.Goals as goal

pub returns : goal.returns
returns c = record { law = checked_proofs_prove }

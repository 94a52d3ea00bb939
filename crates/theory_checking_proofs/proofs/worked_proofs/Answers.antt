use Rattle.theory_checking_proofs.proofs.Worked.{refused_proofs, checked_proofs}
use Rattle.theory_checking_proofs.proofs.worked_proofs.Goals as goal

pub returns : goal.returns
returns c = record { refused = refused_proofs; checked = checked_proofs }

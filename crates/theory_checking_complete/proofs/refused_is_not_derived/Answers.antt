use Rattle.theory_checking_complete.proofs.Complete.{refused_is_not_derived}
use Rattle.theory_checking_complete.proofs.refused_is_not_derived.Goals as goal

pub returns : goal.returns
returns c = record { law = refused_is_not_derived }

use Rattle.theory_formed_canonical.proofs.Bare.{formed_is_canonical}
use Rattle.theory_formed_canonical.proofs.formed_is_canonical.Goals as goal

pub returns : goal.returns
returns c = record { law = formed_is_canonical }

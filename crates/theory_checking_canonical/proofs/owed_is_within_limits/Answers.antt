use Rattle.theory_checking_canonical.proofs.Within.{owed_is_within_limits}
use Rattle.theory_checking_canonical.proofs.owed_is_within_limits.Goals as goal

pub returns : goal.returns
returns c = record { law = owed_is_within_limits }

use Rattle.theory_checking_canonical.proofs.Canonical.{checked_items_keep_canonical}
use Rattle.theory_checking_canonical.proofs.checked_items_keep_canonical.Goals as goal

pub returns : goal.returns
returns c = record { law = checked_items_keep_canonical }

use Rattle.theory_checking_formed.proofs.Formed.{checked_items_keep_formed}
use Rattle.theory_checking_formed.proofs.checked_items_keep_formed.Goals as goal

pub returns : goal.returns
returns c = record { law = checked_items_keep_formed }

use Rattle.theory_checking_narrow.proofs.Items.{checked_items_are_narrow}
use Rattle.theory_checking_narrow.proofs.checked_items_are_narrow.Goals as goal

pub returns : goal.returns
returns c = record { law = checked_items_are_narrow }

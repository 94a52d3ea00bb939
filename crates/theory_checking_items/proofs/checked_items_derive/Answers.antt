use Rattle.theory_checking_items.proofs.Items.{checked_items_derive}
use Rattle.theory_checking_items.proofs.checked_items_derive.Goals as goal

pub returns : goal.returns
returns c = record { law = checked_items_derive }

use Rattle.theory_checking_items.proofs.Items.{items_come_to_one}
use Rattle.theory_checking_items.proofs.items_come_to_one.Goals as goal

pub returns : goal.returns
returns c = record { law = items_come_to_one }

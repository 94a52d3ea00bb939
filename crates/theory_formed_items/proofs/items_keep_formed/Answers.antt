use Rattle.theory_formed_items.proofs.Kept.{items_keep_formed}
use Rattle.theory_formed_items.proofs.items_keep_formed.Goals as goal

pub returns : goal.returns
returns c = record { law = items_keep_formed }

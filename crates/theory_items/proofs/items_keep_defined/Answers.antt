use Rattle.theory_items.proofs.Defined.{items_keep_defined}
use Rattle.theory_items.proofs.items_keep_defined.Goals as goal

pub returns : goal.returns
returns c = record { law = items_keep_defined }

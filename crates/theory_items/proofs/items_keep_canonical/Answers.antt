use Rattle.theory_items.proofs.Derived.{items_keep_canonical}
use Rattle.theory_items.proofs.items_keep_canonical.Goals as goal

pub returns : goal.returns
returns c = record { law = items_keep_canonical }

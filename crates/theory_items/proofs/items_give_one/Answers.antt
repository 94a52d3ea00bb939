use Rattle.theory_items.proofs.Derived.{items_give_one}
use Rattle.theory_items.proofs.items_give_one.Goals as goal

pub returns : goal.returns
returns c = record { law = items_give_one }

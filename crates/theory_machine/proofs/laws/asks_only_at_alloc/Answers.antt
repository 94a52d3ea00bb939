use Rattle.theory_machine.proofs.Asking.{asks_only_at_alloc_lem}
use Rattle.theory_machine.proofs.laws.asks_only_at_alloc.Goals as goal

pub returns : goal.returns
returns c = record { law = asks_only_at_alloc_lem }

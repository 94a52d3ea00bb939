use Rattle.theory_logic_rules.proofs.Once.{one_put, one_fit}
use Rattle.theory_logic_rules.proofs.arguments_give_one.Goals as goal

pub returns : goal.returns
returns c = record { fitted = one_fit; put = one_put }

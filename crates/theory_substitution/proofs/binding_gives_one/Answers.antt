use Rattle.theory_substitution.proofs.Once.{bind_once}
use Rattle.theory_substitution.proofs.binding_gives_one.Goals as goal

pub returns : goal.returns
returns c = record { law = λ e f r q d h. bind_once d h }

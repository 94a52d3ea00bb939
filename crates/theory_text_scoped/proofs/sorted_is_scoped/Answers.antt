use Rattle.theory_text_scoped.proofs.Laws.{scoped}
use Rattle.theory_text_scoped.proofs.sorted_is_scoped.Goals as goal

pub returns : goal.returns
returns c = record { law = scoped }

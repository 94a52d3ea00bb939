use Rattle.theory_text_alike.proofs.Laws.{free}
use Rattle.theory_text_alike.proofs.bound_names_are_free.Goals as goal

pub returns : goal.returns
returns c = record { law = free }

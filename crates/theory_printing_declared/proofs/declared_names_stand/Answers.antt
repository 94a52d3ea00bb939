use Rattle.theory_printing_declared.proofs.Laws.{declared_names}
use Rattle.theory_printing_declared.proofs.declared_names_stand.Goals as goal

pub returns : goal.returns
returns c = record { law = declared_names }

use Rattle.theory_text_scoped.proofs.Laws.{files}
use Rattle.theory_text_scoped.proofs.files_are_sorted.Goals as goal

pub returns : goal.returns
returns c = record { law = files }

use Rattle.theory_text_alike.proofs.Laws.{files}
use Rattle.theory_text_alike.proofs.files_with_other_names.Goals as goal

pub returns : goal.returns
returns c = record { law = files }

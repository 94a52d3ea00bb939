use Rattle.theory_text_scoped.proofs.Laws.{phrases}
use Rattle.theory_text_scoped.proofs.phrases_are_sorted.Goals as goal

pub returns : goal.returns
returns c = record { law = phrases }

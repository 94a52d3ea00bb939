use Rattle.theory_text_alike.proofs.Laws.{uses}
use Rattle.theory_text_alike.proofs.uses_without_bytes.Goals as goal

pub returns : goal.returns
returns c = record { law = uses }

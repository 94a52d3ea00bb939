use Rattle.theory_denotation.proofs.HeadsDenote.{denote}
use Rattle.theory_denotation.proofs.heads_denote.Goals as goal

pub returns : goal.returns
returns c = record { law = denote }

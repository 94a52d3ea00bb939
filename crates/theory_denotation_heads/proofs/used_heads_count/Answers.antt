use Rattle.theory_denotation_heads.proofs.Agreed.{count}
use Rattle.theory_denotation_heads.proofs.used_heads_count.Goals as goal

pub returns : goal.returns
returns c = record { law = count }

use Rattle.theory_denotation_types.proofs.Stable.{stable}
use Rattle.theory_denotation_types.proofs.meaning_is_stable.Goals as goal

pub returns : goal.returns
returns c = record { law = stable }
